-- What is known of the address that a canonical record goes out as: its local part can be read, its domain is one, it is short enough, it
-- has the accepted shape, and address to record reads its local part over what its domain settles.
-- Assumes nothing.
use mathlib.Core.Path.{◌≡◌, refl, ap, ◌∙◌}
use mathlib.Core.Logic.{⊎_elim}
use mathlib.Core.Bool.{Bool, true, false, ◌&&◌, ◌||◌, not, cond, and-false}
use mathlib.Core.List.Memᴰ
use mathlib.Core.List.{List, [], ◌∷◌, ◌++◌, Memᴰ, reverse_aux}
use mathlib.Core.Option.{Option, none, some}
use Prim.Native.Nat.{ℕ, ◌+◌, ◌≤◌, ◌<◌, zero-le}
use native.Mathlib.Omega.{arith}
use borrow.Author.Tests.{eqb-false, eqb-true, le-ltb, leb-true, ltb-false, ltb-true, ne_eqb, not-true}
use lib.Dec.{eqb, leb, lit<, ltb}
use lib.ListN.{length, drop, get_or, length-append, length-drop}
use Rattle.chars.specs.Lists.{all, bytes, first, last, member, non_empty}
use Rattle.chars.specs.Class.{between, is_digit, is_letter, is_printable, is_quotable}
use Rattle.chars.specs.Domain.{is_domain_part}
use Rattle.chars.specs.Parts.{is_atoms}
use Rattle.chars.specs.Spaces.{adjacent, is_text, well_spaced}
use Rattle.chars.proofs.Laws.Case.{equal-path}
use Rattle.chars.proofs.Laws.Class.{on_range, printable_below}
use Rattle.chars.proofs.Laws.Domain.{domain-part-label}
use Rattle.chars.proofs.Laws.Lists.{all-at, all_weaken, and_both, and_left, and_right, and-three, by_test, last-append, or_cases, true_not_false}
use Rattle.chars.proofs.Laws.Parts.{split-at_sep}
use Rattle.chars.proofs.Laws.Seq.{no_length, some-append, some_test}
use Rattle.oraddr.specs.Attributes.{Attributes, Dd, levels, single_of}
use Rattle.oraddr.specs.Bounds.{ADMD, C, c_letters, dd_type, dd_value, G, GQ, I, OU, S, bound_of, is_country, is_space, is_value, rule, level_count, single_count}
use Rattle.oraddr.specs.Canonical.{canonical, canonical_record, is_dd, is_unit, kept}
use Rattle.oraddr.specs.View.{view}
use Rattle.oraddr.specs.declared.record.Record.{Record}
use Rattle.oraddr.proofs.Laws.Canonical.{canonical-view}
use Rattle.ortext_read.specs.Apply.{Reading}
use Rattle.ortext_segments.specs.Keys.{dd_key, ou_key, pn_key, short_keys, key_count, keys}
use Rattle.ortext_name.specs.Name.{dotted, given_text, is_short, name_text}
use Rattle.ortext_write.specs.Write.{dd_segment, has_short, joined, key_value, local_text, long_dd, name_in, only_name, order, plain_segment, quoted, record_text, remaining, segments_at, segments_in, segments_text, writes_short}
use Rattle.ortext_segments.proofs.Laws.Keys.{dot, key-clear}
use Rattle.ortext_write.proofs.Laws.Left.{flat}
use Rattle.ortext_name.proofs.Laws.Name.{name_short, short-some, surname-some}
use Rattle.ortext_write.proofs.Laws.Write.{Ruled, dd_long, dd-short, dd_text, joined_in, joined-map, key_text, local_long, local-short, plain-text, ruled, single-none, single-some, text_class, told_most, unit_text}
use Rattle.std.specs.Prelude.{Ok}
use Rattle.mailaddr.specs.Answers.{from_shape, shaping}
use Rattle.mailaddr.specs.Domain.{in_front, is_domain}
use Rattle.mailaddr.specs.Shape as shape
use Rattle.mailaddr.specs.Shape.{Address, address_text, is_readable, longest_address, quoted_local, unquoted_local}
use Rattle.mailaddr.proofs.Laws.Domain.{domain-atoms}
use Rattle.mailaddr.proofs.Laws.Shape.{quote_shape, quote_unquote}
use Rattle.table.specs.Table.{Row, Table, Token}
use Rattle.table.specs.Formed.{Formed}
use Rattle.table.specs.Lines.{are_fields, is_path, is_row, longest_gateway_domain, longest_row_domain}
use Rattle.table_lookup.specs.Lookup.{by_path, extension, look}
use Rattle.table_lookup.proofs.Laws.Lookup.{Answer, extension-parts, found}
use Rattle.mapping.specs.Answers.{address_room, is_good, read_well}
use Rattle.mapping.specs.Carried.{carrying, read_over, result_of, settled_under}
use Rattle.mapping.specs.Flat.{fronts}
use Rattle.mapping.specs.Results.{mapped}
use Rattle.mapping.specs.ToAddress.{Plan, extended, plan, plan_by, plan_under, planned}
use Rattle.mapping.specs.ToRecord.{record_by, record_in, to_record}
use Rattle.mapping.proofs.Laws.Carried.{carried_is}
use Rattle.mapping.proofs.Laws.Flat.{extended-fronts, length-levels}
use Rattle.mapping.proofs.Laws.Fronts.{fronts-drop, fronts-extension, levels-room}
use Rattle.mapping.proofs.Laws.Route.{extension-fits, extension-take, length-local, length-told}

-- ---- spaces

-- a text that does not begin with a space and has no two side by side: it can stand behind any text that has no two
record Sealed (s : List ℕ) : Type 0 where
  starts : eqb (first s) 32 ≡ false
  quiet : adjacent s ≡ false

sealed_none : Sealed []
unfolding first adjacent
sealed_none = record { starts = refl; quiet = refl }

sealed_byte : (x : ℕ) (s : List ℕ) → eqb x 32 ≡ false → adjacent s ≡ false → Sealed (x ∷ s)
unfolding first adjacent
sealed_byte x s e h = record { starts = e; quiet = rw e h }

quiet_append : (s t : List ℕ) → adjacent s ≡ false → Sealed t → adjacent (s ++ t) ≡ false
unfolding adjacent first
quiet_append [] t h k = k.quiet
quiet_append (x ∷ []) t h k = rw (k.starts, and-false (eqb x 32)) k.quiet
quiet_append (x ∷ y ∷ s) t h k =
    by_test (eqb x 32 && eqb y 32)
    (λ e. true_not_false true refl (rw e at h))
    (λ e. rw e (quiet_append (y ∷ s) t (rw e at h) k))

sealed_append : (s t : List ℕ) → Sealed s → Sealed t → Sealed (s ++ t)
unfolding first
sealed_append [] t h k = k
sealed_append (x ∷ s) t h k = record { starts = h.starts; quiet = quiet_append (x ∷ s) t h.quiet k }

-- pieces one after the other, and in the other order
module _ {A : Type 0} (f : A → List ℕ) (p : A → Bool) (g : (x : A) → p x ≡ true → Sealed (f x)) where
  sealed_flat : (l : List A) → all p l ≡ true → Sealed (flat f l)
  unfolding all
  sealed_flat [] h = sealed_none
  sealed_flat (x ∷ l) h = sealed_append (f x) (flat f l) (g x (and_left (p x) (all p l) h)) (sealed_flat l (and_right (p x) (all p l) h))

  sealed_back : (l r : List A) → all p l ≡ true → Sealed (flat f r) → Sealed (flat f (reverse_aux l r))
  unfolding all
  sealed_back [] r h k = k
  sealed_back (x ∷ l) r h k = sealed_back l (x ∷ r) (and_right (p x) (all p l) h) (sealed_append (f x) (flat f r) (g x (and_left (p x) (all p l) h)) k)

-- what the spaces rule says, and what it asks
spaced_sealed : (s : List ℕ) → well_spaced s ≡ true → Sealed s
unfolding well_spaced
spaced_sealed s h =
    let p = and-three (not (eqb (first s) 32)) (not (eqb (last s) 32)) (not (adjacent s)) h in
    record { starts = not-true (eqb (first s) 32) p.0; quiet = not-true (adjacent s) p.2 }

spaced_last : (s : List ℕ) → well_spaced s ≡ true → eqb (last s) 32 ≡ false
unfolding well_spaced
spaced_last s h = not-true (eqb (last s) 32) (and-three (not (eqb (first s) 32)) (not (eqb (last s) 32)) (not (adjacent s)) h).1

sealed_spaced : (s : List ℕ) → Sealed s → eqb (last s) 32 ≡ false → well_spaced s ≡ true
unfolding well_spaced
sealed_spaced s h e = rw (h.starts, e, h.quiet)

-- ---- values

value_spaced : (k : ℕ) (v : List ℕ) → is_value k v ≡ true → well_spaced v ≡ true
unfolding is_value is_text
value_spaced k v h = (and-three (non_empty v) (all is_printable v) (well_spaced v) (and_right (leb (length v) (bound_of k)) (is_text v) h)).2

value_quiet : (k : ℕ) (v : List ℕ) → is_value k v ≡ true → adjacent v ≡ false
value_quiet k v h = (spaced_sealed v (value_spaced k v h)).quiet

-- a text of a class without the space
class_quiet : (p : ℕ → Bool) → p 32 ≡ false → (s : List ℕ) → all p s ≡ true → adjacent s ≡ false
unfolding adjacent all
class_quiet p f [] h = refl
class_quiet p f (x ∷ s) h =
    let k = and_left (p x) (all p s) h in
    rw (ne_eqb x 32 (λ q. true_not_false (p x) k (ap p q ∙ f))) (class_quiet p f s (and_right (p x) (all p s) h))

country_quiet : (v : List ℕ) → is_country v ≡ true → adjacent v ≡ false
unfolding is_country is_letter is_digit between
country_quiet v h =
    or_cases (eqb (length v) (bound_of c_letters) && all is_letter v) (eqb (length v) (bound_of C) && all is_digit v) h
    (λ e. class_quiet is_letter refl v (and_right (eqb (length v) (bound_of c_letters)) (all is_letter v) e))
    (λ e. class_quiet is_digit refl v (and_right (eqb (length v) (bound_of C)) (all is_digit v) e))

space_quiet : (v : List ℕ) → is_space v ≡ true → adjacent v ≡ false
unfolding is_space adjacent first
space_quiet v h = rw (equal-path v (32 ∷ []) h)

kept_quiet : (k : ℕ) (v : List ℕ) → kept k v ≡ true → adjacent v ≡ false
unfolding kept rule non_empty adjacent
kept_quiet k [] h = refl
kept_quiet k (x ∷ t) h =
    let v = x ∷ t in
    by_test (eqb k C)
    (λ e. country_quiet v (rw e at h))
    (λ e. or_cases (is_value k v) (eqb k ADMD && is_space v) (rw e at h) (value_quiet k v) (λ f. space_quiet v (and_right (eqb k ADMD) (is_space v) f)))

-- any other than C and ADMD is well spaced
kept_spaced : (k : ℕ) → eqb k C ≡ false → eqb k ADMD ≡ false → (v : List ℕ) → kept k v ≡ true → well_spaced v ≡ true
unfolding kept rule non_empty well_spaced first last adjacent
kept_spaced k e f [] h = refl
kept_spaced k e f (x ∷ t) h =
    let v = x ∷ t in
    or_cases (is_value k v) (eqb k ADMD && is_space v) (rw e at h)
    (value_spaced k v)
    (λ q. true_not_false (eqb k ADMD) (and_left (eqb k ADMD) (is_space v) q) f)

-- ---- a value as it is written

stop_other : (x : ℕ) → (eqb x 47 || eqb x 61) ≡ true → eqb x 32 ≡ false
stop_other x h = or_cases (eqb x 47) (eqb x 61) h (λ e. rw (eqb-true x 47 e)) (λ e. rw (eqb-true x 61 e))

first-quoted : (s : List ℕ) → eqb (first (quoted s)) 32 ≡ eqb (first s) 32
unfolding quoted first
first-quoted [] = refl
first-quoted (x ∷ s) = by_test (eqb x 47 || eqb x 61) (λ e. rw (e, stop_other x e)) (λ e. rw e)

adjacent-quoted : (s : List ℕ) → adjacent (quoted s) ≡ adjacent s
unfolding quoted adjacent first
adjacent-quoted [] = refl
adjacent-quoted (x ∷ s) =
    by_test (eqb x 47 || eqb x 61)
    (λ e. rw (e, first-quoted s, adjacent-quoted s))
    (λ e. rw (e, first-quoted s, adjacent-quoted s))

sealed_key_value : (k v : List ℕ) → adjacent k ≡ false → adjacent v ≡ false → Sealed (key_value k v)
unfolding key_value
sealed_key_value k v h g =
    sealed_byte 47 (k ++ 61 ∷ quoted v) refl (quiet_append k (61 ∷ quoted v) h (sealed_byte 61 (quoted v) refl (adjacent-quoted v ∙ g)))

key_quiet : (k : ℕ) → k < key_count → adjacent (get_or keys k []) ≡ false
unfolding keys bytes all adjacent first
key_quiet k h = not-true (adjacent (get_or keys k [])) (all-at (λ s. not (adjacent s)) keys k [] refl h)

-- ---- record text

unit_sealed : (v : List ℕ) → is_unit v ≡ true → Sealed (unit_text v)
unfolding is_unit
unit_sealed v h =
    rw (plain-text ou_key v (λ q. omega arith)) (sealed_key_value (get_or keys ou_key []) v (key_quiet ou_key (lit< tt)) (value_quiet OU v h))

dd_sealed : (d : Dd) → is_dd d ≡ true → Sealed (dd_text d)
unfolding is_dd long_dd
dd_sealed d h =
    let t = value_quiet dd_type d.kind (and_left (is_value dd_type d.kind) (is_value dd_value d.value) h) in
    let v = value_quiet dd_value d.value (and_right (is_value dd_type d.kind) (is_value dd_value d.value) h) in
    by_test (has_short keys d.kind)
    (λ e. rw (dd-short d.kind d.value e) (sealed_key_value (get_or keys short_keys []) d.value (key_quiet short_keys (lit< tt)) v))
    (λ e. rw (dd_long d.kind d.value e)
    (sealed_key_value (get_or keys dd_key [] ++ 46 ∷ quoted d.kind) d.value
    (quiet_append (get_or keys dd_key []) (46 ∷ quoted d.kind) (key_quiet dd_key (lit< tt)) (sealed_byte 46 (quoted d.kind) refl (adjacent-quoted d.kind ∙ t)))
    v))

module _ (a : Attributes) (r : Ruled a) where
  own_sealed : (k : ℕ) → k < single_count → Sealed (key_text a k)
  own_sealed k h =
      let v = single_of a k in
      by_test (ltb 0 (length v))
      (λ e. rw (single-some a k h (ltb-true 0 (length v) e)) (sealed_key_value (get_or keys k []) v (key_quiet k (omega arith)) (kept_quiet k v (r.singles k))))
      (λ e. rw (single-none keys a k h (no_length v (ltb-false 0 (length v) e))) sealed_none)

  dds_sealed : Sealed (key_text a dd_key)
  unfolding segments_at
  dds_sealed = rw (joined-map keys dd_segment a.dds) (sealed_flat dd_text is_dd dd_sealed a.dds r.dds)

  units_sealed : Sealed (key_text a ou_key)
  unfolding segments_at
  units_sealed = rw (joined-map keys (plain_segment ou_key)) (sealed_back unit_text is_unit unit_sealed a.units [] r.units sealed_none)

  at_sealed : (k : ℕ) → ltb k pn_key ≡ true → Sealed (key_text a k)
  at_sealed k h =
      by_test (eqb k dd_key)
      (λ e. rw (eqb-true k dd_key e) dds_sealed)
      (λ e. by_test (eqb k ou_key)
      (λ f. rw (eqb-true k ou_key f) units_sealed)
      (λ f. own_sealed k (omega (arith, ltb-true k pn_key h, eqb-false k dd_key e, eqb-false k ou_key f))))

  record_spaced : well_spaced (record_text keys a) ≡ true
  unfolding record_text segments_text last all
  record_spaced =
      let t : List ℕ = joined keys (segments_in a order) in
      sealed_spaced (t ++ (47 ∷ []))
      (sealed_append t (47 ∷ []) (rw (joined_in keys a order) (sealed_flat (key_text a) (λ k. ltb k pn_key) at_sealed order refl)) (sealed_byte 47 [] refl sealed_none.quiet))
      (rw (last-append t (47 ∷ []) (omega arith)))

-- ---- the short form

given_sealed : (g : List ℕ) → Sealed g → Sealed (given_text g)
unfolding given_text non_empty
given_sealed [] h = h
given_sealed (x ∷ g) h = sealed_append (x ∷ g) (46 ∷ []) h (sealed_byte 46 [] refl sealed_none.quiet)

dotted_quiet : (s : List ℕ) → adjacent (dotted s) ≡ false
unfolding dotted adjacent first
dotted_quiet [] = refl
dotted_quiet (x ∷ s) = rw (and-false (eqb x 32)) (dotted_quiet s)

dotted_sealed : (s : List ℕ) → Sealed s → Sealed (dotted s)
unfolding dotted first
dotted_sealed [] h = h
dotted_sealed (x ∷ s) h = record { starts = h.starts; quiet = dotted_quiet (x ∷ s) }

module _ (a : Attributes) (r : Ruled a) where
  name_spaced : is_short (name_in a) (single_of a GQ) ≡ true → well_spaced (name_text (name_in a)) ≡ true
  unfolding name_text name_in
  name_spaced h =
      let s = single_of a S in
      let w = kept_spaced S refl refl s (r.singles S) in
      let part : (k : ℕ) → eqb k C ≡ false → eqb k ADMD ≡ false → Sealed (single_of a k) = λ k e f. spaced_sealed (single_of a k) (kept_spaced k e f (single_of a k) (r.singles k)) in
      let front = sealed_append (given_text (single_of a G)) (dotted (single_of a I)) (given_sealed (single_of a G) (part G refl refl)) (dotted_sealed (single_of a I) (part I refl refl)) in
      let there = surname-some (name_text (name_in a)) (name_in a) (name_short (name_in a) (single_of a GQ) h) in
      sealed_spaced (given_text (single_of a G) ++ dotted (single_of a I) ++ s)
      (sealed_append (given_text (single_of a G) ++ dotted (single_of a I)) s front (spaced_sealed s w))
      (rw (last-append (given_text (single_of a G) ++ dotted (single_of a I)) s (ltb-true 0 (length s) (some_test s ∙ there))) (spaced_last s w))

  local_spaced : non_empty (local_text keys a) && well_spaced (local_text keys a) ≡ true
  unfolding writes_short record_text segments_text non_empty
  local_spaced =
      by_test (writes_short a)
      (λ e. let h = and_right (only_name a) (is_short (name_in a) (single_of a GQ)) e in
      rw (local-short a e) (and_both (short-some (name_in a) (single_of a GQ) h) (name_spaced h)))
      (λ e. rw (local_long a e) (and_both (some-append (joined keys (segments_in a order)) (47 ∷ []) refl) (record_spaced a r)))

-- The local part that is written for a canonical record, any number of its leading levels left out, can be read.
pub local_readable : (a : Attributes) → canonical a ≡ true → (n : ℕ) → is_readable (local_text keys (remaining n a)) ≡ true
unfolding is_readable is_quotable
local_readable a h n = and_both (local_spaced (remaining n a) (ruled n a h)) (text_class a h n)

-- ---- the domain

-- domain parts in front of a domain
extended-domain : (d : List ℕ) (x : List Token) → is_domain d ≡ true → all is_domain_part x ≡ true → is_domain (extended d x) ≡ true
unfolding extended in_front is_domain all
extended-domain d [] h k = h
extended-domain d (p ∷ ps) h k =
    let e = and_left (is_domain_part p) (all is_domain_part ps) k in
    extended-domain (p ++ 46 ∷ d) ps
    (ap (all is_domain_part) (split-at_sep 46 p d (key-clear 46 dot p (domain-part-label p e))) ∙ and_both e h)
    (and_right (is_domain_part p) (all is_domain_part ps) k)

-- what all elements have, each has
all_mem : {A : Type 0} (p : A → Bool) (s : List A) (x : A) → Memᴰ x s → all p s ≡ true → p x ≡ true
unfolding all
all_mem p [] x m h = absurd (Memᴰ.not-nil m)
all_mem p (y ∷ s) x m h =
    ⊎_elim
    (λ e. rw e (and_left (p y) (all p s) h))
    (λ n. all_mem p s x n (and_right (p y) (all p s) h))
    (Memᴰ.cases_cons m)

row-domain : (n : ℕ) (r : Row) → is_row n r ≡ true → (length r.domain ≤ n) × (is_domain r.domain ≡ true)
unfolding is_row
row-domain n r h =
    let p = and-three (leb (length r.domain) n) (is_domain r.domain) (is_path r.path) h in
    (leb-true (length r.domain) n p.0, p.1)

row-few : (n : ℕ) (r : Row) → is_row n r ≡ true → length r.path ≤ level_count
unfolding is_row is_path
row-few n r h =
    let p = r.path in
    let q = (and-three (leb (length r.domain) n) (is_domain r.domain) (is_path p) h).2 in
    leb-true (length p) level_count (and-three (leb 2 (length p)) (leb (length p) level_count) (are_fields 0 p) q).1

-- ---- the domain

module _ (t : Table) (f : Formed t) (ls : List Token) where
  by-domain : (o : Option Row) → Answer by_path t.to_domain ls o → is_domain (plan_by t ls o).domain ≡ true
  unfolding plan_by plan_under
  by-domain none b = (row-domain longest_gateway_domain t.gateway f.gateway).1
  by-domain (some r) b =
      extended-domain r.domain (extension (drop (length r.path) ls))
      (row-domain longest_row_domain r (all_mem (is_row longest_row_domain) t.to_domain r b.mem f.domains)).1
      (extension-parts (drop (length r.path) ls))

  -- The domain that a record goes out under is a domain.
  pub plan-domain : is_domain (plan t ls).domain ≡ true
  unfolding plan
  plan-domain = by-domain (look by_path t.to_domain ls) (found by_path t.to_domain ls)

  by_length : length (fronts ls) ≤ told_most level_count → (o : Option Row) → Answer by_path t.to_domain ls o → length (plan_by t ls o).domain ≤ told_most level_count + longest_row_domain
  unfolding plan_by plan_under
  by_length l none b = omega (arith, (row-domain longest_gateway_domain t.gateway f.gateway).0)
  by_length l (some r) b =
      let y = drop (length r.path) ls in
      rw (extended-fronts r.domain (extension y))
      (omega (
        arith,
        length-append (fronts (extension y)) r.domain,
        fronts-extension y,
        fronts-drop (length r.path) ls,
        (row-domain longest_row_domain r (all_mem (is_row longest_row_domain) t.to_domain r b.mem f.domains)).0,
      ))

  plan-short : length (fronts ls) ≤ told_most level_count → length (plan t ls).domain ≤ told_most level_count + longest_row_domain
  unfolding plan
  plan-short l = by_length l (look by_path t.to_domain ls) (found by_path t.to_domain ls)

-- ---- the address

-- what a quoted string may have
quotable_text : (b : ℕ) → is_quotable b ≡ true → shape.is_text b ≡ true
unfolding is_quotable is_printable is_letter is_digit between bytes member shape.is_text
quotable_text b e =
    let below : b < 128 = or_cases (is_printable b) (eqb b 36) e (printable_below b) (λ q. omega (arith, eqb-true b 36 q)) in
    let h : (not (is_quotable b) || shape.is_text b) ≡ true = on_range (λ b. not (is_quotable b) || shape.is_text b) (λ _. true) 0 128 tt b zero-le (omega arith) in
    rw e at h

-- how a record goes out, its local part before it is quoted, the text, and the address
module _ (t : Table) (r : Record) where
  abbrev pub sent_plan : Plan
  sent_plan = plan t (levels (view r))

  abbrev pub sent_local : List ℕ
  sent_local = local_text keys (remaining sent_plan.from (view r))

  abbrev pub sent_text : List ℕ
  sent_text = planned sent_plan (view r)

  abbrev pub sent_address : Address
  sent_address = record { local = quoted_local sent_local; is_quoted = not (is_atoms sent_local); domain = sent_plan.domain }

  -- the local part read over what the domain settles
  abbrev pub sent_reading : Reading
  sent_reading = read_over (settled_under t sent_plan.domain) sent_local

  -- Unquoting gives the local part as it was before it was quoted.
  pub sent_local_lem : unquoted_local sent_address ≡ sent_local
  sent_local_lem = quote_unquote sent_local sent_plan.domain

module _ (t : Table) (f : Formed t) (r : Record) (h : canonical_record r ≡ true) where
  -- It is short enough to be read.
  pub sent_short : length (sent_text t r) ≤ longest_address
  unfolding planned address_text
  sent_short =
      let u = sent_local t r in
      let d = (sent_plan t r).domain in
      omega (arith, length-append (quoted_local u) (64 ∷ d), length-local r h (sent_plan t r).from, plan-short t f (levels (view r)) (levels-room (view r) (canonical-view r h)))

  -- There is room for it, where the record is one.
  module _ (l : length (view r).single ≡ single_count) where
    by_most : (o : Option Row) → Answer by_path t.to_domain (levels (view r)) o → length (planned (plan_by t (levels (view r)) o) (view r)) ≤ address_room
    unfolding plan_by plan_under planned address_text
    by_most none b =
        let u = local_text keys (remaining 0 (view r)) in
        omega (arith, length-append (quoted_local u) (64 ∷ t.gateway.domain), length-local r h 0, (row-domain longest_gateway_domain t.gateway f.gateway).0)
    by_most (some row) b =
        let own = length row.path in
        let rest = drop own (levels (view r)) in
        let x = extension rest in
        let u = local_text keys (remaining (own + length x) (view r)) in
        let is = all_mem (is_row longest_row_domain) t.to_domain row b.mem f.domains in
        let eight = length-levels (view r) l in
        let few : own + length x ≤ level_count = omega (arith, extension-fits rest, length-drop own (levels (view r)), row-few longest_row_domain row is, eight) in
        omega (
          arith,
          length-append (quoted_local u) (64 ∷ extended row.domain x),
          ap length (extended-fronts row.domain x),
          length-append (fronts x) row.domain,
          ap (λ (ts : List Token). length (fronts ts)) (extension-take rest),
          length-told r h eight own (length x) few,
          (row-domain longest_row_domain row is).0,
        )

    pub sent_most : length (sent_text t r) ≤ address_room
    unfolding plan
    sent_most = by_most (look by_path t.to_domain (levels (view r))) (found by_path t.to_domain (levels (view r)))

  -- It has the accepted shape.
  pub sent_shaped : shaping (sent_text t r) ≡ Ok (sent_address t r)
  unfolding shaping from_shape planned is_quotable
  sent_shaped =
      let u = sent_local t r in
      let d = (sent_plan t r).domain in
      rw (
        le-ltb longest_address (length (sent_text t r)) sent_short,
        quote_shape u d
            (all_weaken is_quotable shape.is_text quotable_text u (text_class (view r) (canonical-view r h) (sent_plan t r).from))
            (domain-atoms d (plan-domain t f (levels (view r)))),
      )

  -- Its local part is read over what its domain settles.
  sent_result : result_of t (sent_address t r) ≡ sent_reading t r
  unfolding result_of
  sent_result = rw (sent_local_lem t r, local_readable (view r) (canonical-view r h) (sent_plan t r).from)

  pub sent_read : read_well t (sent_address t r) ≡ sent_reading t r
  unfolding read_well
  sent_read = rw (plan-domain t f (levels (view r))) sent_result

  -- It becomes the record that is read, if that is canonical, and else it is carried whole.
  pub sent_record : to_record t (sent_text t r) ≡ cond (is_good (sent_reading t r)) (mapped (record_in (sent_reading t r))) (carrying t.gateway.path (sent_text t r))
  unfolding to_record record_by
  sent_record =
      by_test (is_good (sent_reading t r))
      (λ e. rw (sent_shaped, carried_is t (sent_address t r), sent_read, sent_result, e))
      (λ e. rw (sent_shaped, carried_is t (sent_address t r), sent_read, sent_result, e))
