-- Document 01, "Address to record" steps 2 to 4: what the segments of a record text name, and the record that comes of it,
-- over the levels that a domain has settled.
-- Assumes nothing.
use Rattle.std.specs.Prelude.{ℕ, min, Bool, ◌&&◌, ◌||◌, not, cond, List, [], ◌∷◌, reverse, leb, eqb, length, get_or}
use Rattle.std.proofs.Math.Option.{Option, none, some}
use Rattle.chars.specs.Lists.{all, non_empty}
use Rattle.oraddr.specs.Bounds.{ADMD, C, CN, G, GQ, I, O, PRMD, S, own_levels}
use Rattle.oraddr.specs.Attributes.{Attributes, Dd, single_of}
use Rattle.oraddr.specs.Add.{Outcome, add_single}
use Rattle.oraddr.specs.View.{view}
use Rattle.oraddr.specs.declared.record.Record.{Record}
use Rattle.ortext_segments.specs.Keys.{Keys, ou_key, dd_key, pn_key}
use Rattle.ortext_name.specs.Name.{Name, read_name}
use Rattle.ortext_segments.specs.Segments.{Segment, unknown, read_segments}
use Rattle.ortext_build.specs.Adding.{add_dds, add_singles, add_units}

-- the values of the segments with the key k, in order
unfoldable pub values_at : ℕ → List Segment → List (List ℕ)
values_at k [] = []
values_at k (g ∷ gs) = cond (eqb g.key k) (g.value ∷ values_at k gs) (values_at k gs)

-- the first of them, empty where there is none
unfoldable pub value_at : ℕ → List Segment → List ℕ
unfolding values_at
value_at k gs = get_or (values_at k gs) 0 []

-- the DDs, in order
unfoldable pub dds_of : List Segment → List Dd
dds_of [] = []
dds_of (g ∷ gs) = cond (eqb g.key dd_key) (record { kind = g.kind; value = g.value } ∷ dds_of gs) (dds_of gs)

-- "a key is unknown"
unfoldable pub has_unknown : List Segment → Bool
unfolding values_at non_empty
has_unknown gs = non_empty (values_at unknown gs)

-- the keys of the attributes that a record has once
abbrev pub single_keys : List ℕ
single_keys = C ∷ ADMD ∷ PRMD ∷ O ∷ CN ∷ S ∷ G ∷ I ∷ GQ ∷ []

-- "a key other than OU, DD and the short DD keys is repeated"
unfoldable pub has_repeated : List Segment → Bool
unfolding values_at all
has_repeated gs = not (all (λ k. leb (length (values_at k gs)) 1) (pn_key ∷ single_keys))

-- "PN meets S, G, I or GQ"
unfoldable pub pn_meets : List Segment → Bool
unfolding values_at non_empty
pn_meets gs =
    non_empty (values_at pn_key gs)
    && (non_empty (values_at S gs) || non_empty (values_at G gs) || non_empty (values_at I gs) || non_empty (values_at GQ gs))

-- A value that a text names as empty is present and empty, hence breaks its rule. (An empty unit, type or DD value says so by
-- itself, and an empty PN is no name.)
unfoldable pub has_empty : List Segment → Bool
unfolding values_at all non_empty
has_empty gs = not (all (λ k. all non_empty (values_at k gs)) single_keys)

-- "PN is read as a personal name": the name that the segments give, or none where PN's "value is no name"
unfoldable pub name_of : List Segment → Option Name
unfolding values_at value_at non_empty read_name
name_of gs =
    cond (non_empty (values_at pn_key gs))
    (read_name (value_at pn_key gs))
    (some (record { given = value_at G gs; initials = value_at I gs; surname = value_at S gs }))

unfoldable pub with_name : List Segment → Option Name → Option Attributes
unfolding value_at values_at dds_of
with_name gs none = none
with_name gs (some n) =
    some (record {
      single =
          value_at C gs ∷ value_at ADMD gs ∷ value_at PRMD gs ∷ value_at O gs ∷ value_at CN gs
          ∷ n.surname ∷ n.given ∷ n.initials ∷ value_at GQ gs ∷ [];
      units = reverse (values_at ou_key gs);
      dds = dds_of gs;
    })

-- what the segments name by themselves; "Several OUs stand with the most significant rightmost (house rule)"
unfoldable pub named : List Segment → Option Attributes
unfolding has_unknown has_repeated pn_meets has_empty with_name name_of
named gs = cond (has_unknown gs || has_repeated gs || pn_meets gs || has_empty gs) none (with_name gs (name_of gs))

-- what a personal name names
unfoldable pub name_alone : Name → Attributes
name_alone n =
    record {
      single = [] ∷ [] ∷ [] ∷ [] ∷ [] ∷ n.surname ∷ n.given ∷ n.initials ∷ [] ∷ [];
      units = [];
      dds = [];
    }

-- "a settled level other than OU is named again": the first n levels are settled, and the keys of those that are no units are
-- their numbers
unfoldable pub named_again : ℕ → List Segment → Bool
unfolding all
named_again n gs = not (all (λ g. leb (min n own_levels) g.key) gs)

-- ---- the additions

-- the attributes added to a record, one at a time
unfoldable pub add_all : Attributes → Record → Outcome
unfolding add_singles add_units add_dds
add_all a r = add_dds a.dds (add_units a.units (add_singles 0 a.single (record { number = 0; record' = r })))

-- Step 4: "C present without ADMD means ADMD is one space (002)".
unfoldable pub complete : Record → Record
unfolding single_of non_empty add_single view
complete r =
    cond (non_empty (single_of (view r) C) && not (non_empty (single_of (view r) ADMD)))
    (add_single r ADMD (32 ∷ [])).record' r

-- ---- what reading gives

pub data Reading : Type 0 where
  -- the text is no record text, nor, where a name may stand, a name
  unread : Reading
  -- it names what no record may have: refusal 4, and in an address it is carried whole
  refused : Reading
  -- a settled level is named again
  again : Reading
  read : Record → Reading

unfoldable pub finish : Outcome → Reading
unfolding complete
finish o = cond (eqb o.number 0) (read (complete o.record')) refused

-- what is named, added to a record
unfoldable pub add_named : Record → Option Attributes → Reading
unfolding finish add_all
add_named r none = refused
add_named r (some a) = finish (add_all a r)

unfoldable pub applied : ℕ → Record → Option (List Segment) → Reading
unfolding add_named named named_again
applied n r none = unread
applied n r (some gs) = cond (named_again n gs) again (add_named r (named gs))

-- a record text, read over a record with the first n levels settled
unfoldable pub read_text : Keys → ℕ → Record → List ℕ → Reading
unfolding applied read_segments
read_text ks n r s = applied n r (read_segments ks s)

unfoldable pub read_as_name : Record → Option Name → Reading
unfolding add_named name_alone
read_as_name r none = unread
read_as_name r (some m) = add_named r (some (name_alone m))

-- Step 3: "If that fails, read the whole local part as a personal name." It is tried only where the text is no record text.
unfoldable pub or_name : Record → List ℕ → Reading → Reading
unfolding read_as_name read_name
or_name r s unread = read_as_name r (read_name s)
or_name r s refused = refused
or_name r s again = again
or_name r s (read q) = read q

unfoldable pub read_local : Keys → ℕ → Record → List ℕ → Reading
unfolding or_name read_text
read_local ks n r s = or_name r s (read_text ks n r s)
