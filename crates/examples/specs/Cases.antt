-- Document 01, "Both sides of the edge": the cases marked *, "proved together, one table with a single statement over it"; and request 12's edges.
-- Assumes nothing.
use Rattle.std.specs.Prelude.{◌≡◌, ℕ, Bool, true, false, replicate}
use mathlib.Core.List.{List, [], ◌∷◌, Memᴰ}
use Rattle.std.proofs.Math.Option.{Option, none, some, map}
use Rattle.chars.specs.Lists.{bytes}
use Rattle.oraddr.specs.Attributes.{Attributes, Dd, single_of}
use Rattle.oraddr.specs.Bounds.{ADMD}
use Rattle.oraddr.specs.Canonical.{canonical}
use Rattle.oraddr.specs.View.{empty_record, view}
use Rattle.oraddr.specs.Add.{add_dd}
use Rattle.ortext_read.specs.Apply.{Reading, unread, refused, again, read, read_text}
use Rattle.ortext_segments.specs.Keys.{keys}
use Rattle.ortext_name.specs.Name.{Name, read_name}
use Rattle.ortext_write.specs.Write.{local_text, writes_short}
use Rattle.mailaddr.specs.Code.{coded, decoded}
use Rattle.mailaddr.specs.Shape.{Address, shape_of}

-- what comes out: a number and the DDs that a record then has; a yes or no; a name; a text, or none
pub data Answer : Type 0 where
  told : ℕ → List Dd → Answer
  judged : Bool → Answer
  a_name : Option Name → Answer
  a_text : Option (List ℕ) → Answer

-- A case, by its sort: what goes in, and what must come out.
pub data Case : Type 0 where
  -- a DD of this type and value, added to the empty record
  adding : Dd → Answer → Case
  -- a record with C, ADMD and one DD, so that "canonical" turns on the DD alone
  judging : Dd → Answer → Case
  -- a record, canonical or not
  ruling : Attributes → Answer → Case
  -- a text read as a personal name
  naming : List ℕ → Answer → Case
  -- what is left of a record, written as a local part; and whether that is the short form
  writing : Attributes → Answer → Case
  shortening : Attributes → Answer → Case
  -- the ADMD of the record that a record text reads as
  completing : List ℕ → Answer → Case
  -- an address coded; a value decoded; the domain of an address of the accepted shape
  coding : List ℕ → Answer → Case
  decoding : List ℕ → Answer → Case
  shaping : List ℕ → Answer → Case

abbrev pub dd : List ℕ → List ℕ → Dd
dd t v = record { kind = t; value = v }

-- a record with C XY, ADMD one space, and the DD
unfoldable pub with_dd : Dd → Attributes
unfolding bytes
with_dd d = record { single = bytes "XY" ∷ bytes " " ∷ [] ∷ [] ∷ [] ∷ [] ∷ [] ∷ [] ∷ [] ∷ []; units = []; dds = d ∷ [] }

-- a name alone
unfoldable pub with_name : List ℕ → List ℕ → Attributes
with_name g s = record { single = [] ∷ [] ∷ [] ∷ [] ∷ [] ∷ s ∷ g ∷ [] ∷ [] ∷ []; units = []; dds = [] }

-- a record with C XY, ADMD one space, a common name, a given name and a surname
unfoldable pub with_common : List ℕ → List ℕ → List ℕ → Attributes
unfolding bytes
with_common c g s = record { single = bytes "XY" ∷ bytes " " ∷ [] ∷ [] ∷ c ∷ s ∷ g ∷ [] ∷ [] ∷ []; units = []; dds = [] }

unfoldable pub admd_of : Reading → Option (List ℕ)
unfolding single_of view
admd_of unread = none
admd_of refused = none
admd_of again = none
admd_of (read r) = some (single_of (view r) ADMD)

-- what the definitions say that comes out
unfoldable pub given : Case → Answer
unfolding add_dd view canonical with_dd read_name local_text writes_short keys admd_of read_text coded decoded shape_of
given (adding d a) = told (add_dd empty_record d.kind d.value).number (view (add_dd empty_record d.kind d.value).record').dds
given (judging d a) = judged (canonical (with_dd d))
given (ruling r a) = judged (canonical r)
given (naming s a) = a_name (read_name s)
given (writing r a) = a_text (some (local_text keys r))
given (shortening r a) = judged (writes_short r)
given (completing s a) = a_text (admd_of (read_text keys 0 empty_record s))
given (coding s a) = a_text (some (coded s))
given (decoding s a) = a_text (decoded s)
given (shaping s a) = a_text (map (λ (x : Address). x.domain) (shape_of s))

-- what the papers say
unfoldable pub wanted : Case → Answer
wanted (adding d a) = a
wanted (judging d a) = a
wanted (ruling r a) = a
wanted (naming s a) = a
wanted (writing r a) = a
wanted (shortening r a) = a
wanted (completing s a) = a
wanted (coding s a) = a
wanted (decoding s a) = a
wanted (shaping s a) = a

unfoldable pub cases : List Case
unfolding bytes with_name with_common
cases =
    -- "`Marshall.M.T.Rose` is G Marshall, I MT, S Rose; `M.T.Rose` is I MT, S Rose; `Marshall.` is no name."
    naming (bytes "Marshall.M.T.Rose") (a_name (some (record { given = bytes "Marshall"; initials = bytes "MT"; surname = bytes "Rose" })))
    ∷ naming (bytes "M.T.Rose") (a_name (some (record { given = []; initials = bytes "MT"; surname = bytes "Rose" })))
    ∷ naming (bytes "Marshall.") (a_name none)
    -- "G `/S=a`, S `b/` is written `/G=$/S$=a/S=b$//`, never short."
    ∷ writing (with_name (bytes "/S=a") (bytes "b/")) (a_text (some (bytes "/G=$/S$=a/S=b$//")))
    ∷ shortening (with_name (bytes "/S=a") (bytes "b/")) (judged false)
    -- "`jj@seismo.css.gov` codes as `jj(a)seismo.css.gov`; `"a  b"@c.test` as `(q)a (032)b(q)(a)c.test`."
    ∷ coding (bytes "jj@seismo.css.gov") (a_text (some (bytes "jj(a)seismo.css.gov")))
    ∷ coding (bytes "\"a  b\"@c.test") (a_text (some (bytes "(q)a (032)b(q)(a)c.test")))
    -- "`(128)` does not decode; `(127)` decodes to a byte no address may have."
    ∷ decoding (bytes "(128)") (a_text none)
    ∷ decoding (bytes "(127)") (a_text (some (127 ∷ [])))
    ∷ decoding (bytes "a(a)b(127)") (a_text (some (97 ∷ 64 ∷ 98 ∷ 127 ∷ [])))
    ∷ shaping (97 ∷ 64 ∷ 98 ∷ 127 ∷ []) (a_text none)
    ∷ shaping (97 ∷ 64 ∷ 98 ∷ []) (a_text (some (98 ∷ [])))
    -- "DD type `FENDER-1` is kept; a record with `FENDER-10` is not canonical, never cut."
    ∷ adding (dd (bytes "FENDER-1") (bytes "x")) (told 0 (dd (bytes "FENDER-1") (bytes "x") ∷ []))
    ∷ judging (dd (bytes "FENDER-1") (bytes "x")) (judged true)
    ∷ adding (dd (bytes "FENDER-10") (bytes "x")) (told 4 [])
    ∷ judging (dd (bytes "FENDER-10") (bytes "x")) (judged false)
    -- "`/S=Lee/C=XY/` has ADMD one space."
    ∷ completing (bytes "/S=Lee/C=XY/") (a_text (some (bytes " ")))
    -- request 12: "bound 64"; "A canonical record now has S, a common name or at least one DD."
    ∷ ruling (with_common (replicate 64 97) [] []) (judged true)
    ∷ ruling (with_common (replicate 65 97) [] []) (judged false)
    ∷ ruling (with_common (bytes "Desk") [] (bytes "Lee")) (judged true)
    ∷ ruling (with_common (bytes "Desk") (bytes "Ann") []) (judged false)
    ∷ ruling (with_common [] [] []) (judged false)
    -- "before G"; "The short name form is used only if no common name is left."
    ∷ writing (with_common (bytes "Desk") (bytes "Ann") (bytes "Lee")) (a_text (some (bytes "/CN=Desk/G=Ann/S=Lee/ADMD= /C=XY/")))
    ∷ shortening (record { single = [] ∷ [] ∷ [] ∷ [] ∷ bytes "Desk" ∷ bytes "Lee" ∷ [] ∷ [] ∷ [] ∷ []; units = []; dds = [] }) (judged false)
    ∷ shortening (with_name [] (bytes "Lee")) (judged true)
    ∷ []

-- the single statement: every case of the table comes out as the papers say
unfoldable pub EveryCase : Type 0
unfolding given wanted cases
EveryCase = (c : Case) → Memᴰ c cases → given c ≡ wanted c
