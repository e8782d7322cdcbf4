-- Document 01, "Address to record" step 2: record text read as a list of segments.
-- Assumes nothing.
use Rattle.std.specs.Prelude.{ℕ, ◌+◌, ◌-◌, ◌&&◌, cond, List, [], ◌∷◌, map, ltb, eqb, length, get_or, take, drop}
use Rattle.std.proofs.Math.Option.{Option, none, some}
use Rattle.chars.specs.Lists.{non_empty}
use Rattle.chars.specs.Class.{is_printable, is_label_char}
use Rattle.chars.specs.Parts.{split}
use Rattle.ortext_segments.specs.Keys.{Keys, dd_key, short_keys, key_number}

-- A segment of record text: which key it has, for a DD the type, and the value. An unknown key has the number `unknown`.
pub record Segment : Type 0 where
  pub key : ℕ
  pub kind : List ℕ
  pub value : List ℕ

abbrev pub unknown : ℕ
unknown = 12

-- A quoted character is its byte and 256 more, so that it is no separator; `plain` takes the mark off again.
abbrev pub mark : ℕ
mark = 256

unfoldable pub plain : ℕ → ℕ
plain b = cond (ltb b mark) b (b - mark)

unfoldable pub plain_text : List ℕ → List ℕ
unfolding plain
plain_text s = map plain s

-- a text with the quoting taken off: what each `$` quotes stands for itself
unfoldable pub unquoted : List ℕ → List ℕ
unquoted [] = []
unquoted (x ∷ []) = cond (eqb x 36) [] (x ∷ [])
unquoted (x ∷ y ∷ s) = cond (eqb x 36) (y ∷ unquoted s) (x ∷ unquoted (y ∷ s))

-- one more character in front of what was read, if it was
unfoldable pub onto : ℕ → Option (List ℕ) → Option (List ℕ)
onto b none = none
onto b (some s) = some (b ∷ s)

-- "`$`, which quotes any printable string character": the characters of a text, the quoted ones marked; none where a `$` stands
-- before anything else, or last
unfoldable pub symbols : List ℕ → Option (List ℕ)
unfolding onto is_printable
symbols [] = some []
symbols (x ∷ []) = cond (eqb x 36) none (some (x ∷ []))
symbols (x ∷ y ∷ s) = cond (eqb x 36) (cond (is_printable y) (onto (y + mark) (symbols s)) none) (onto x (symbols (y ∷ s)))

-- how far a key goes: letters, digits and hyphens
unfoldable pub key_run : List ℕ → ℕ
unfolding is_label_char
key_run [] = 0
key_run (x ∷ s) = cond (is_label_char x) (key_run s + 1) 0

-- a key with no dot: "an unknown key, or `DD` with no dot, ... counts as unknown"; a short key is its DD type
unfoldable pub plain_key : Keys → ℕ → List ℕ → Segment
plain_key ks n v =
    cond (eqb n dd_key)
    (record { key = unknown; kind = []; value = v })
    (cond (ltb n short_keys)
    (record { key = n; kind = []; value = v })
    (cond (ltb n (length ks))
    (record { key = dd_key; kind = get_or ks n []; value = v })
    (record { key = unknown; kind = []; value = v })))

-- "A key is one or more letters, digits or hyphens, `DD` alone taking a dot and a type": what stands before the `=`
unfoldable pub segment_of : Keys → List ℕ → List ℕ → Option Segment
unfolding key_run plain_key key_number plain_text non_empty
segment_of ks left v =
    let key : List ℕ = take (key_run left) left in
    let rest : List ℕ = drop (key_run left) left in
    cond (non_empty key)
    (cond (non_empty rest)
    (cond (eqb (get_or rest 0 0) 46 && eqb (key_number ks key) dd_key)
    (some (record { key = dd_key; kind = plain_text (drop 1 rest); value = plain_text v }))
    none)
    (some (plain_key ks (key_number ks key) (plain_text v))))
    none

-- `key=value`: one `=` that is not quoted
unfoldable pub both_sides : Keys → List (List ℕ) → Option Segment
unfolding segment_of
both_sides ks [] = none
both_sides ks (a ∷ []) = none
both_sides ks (a ∷ v ∷ []) = segment_of ks a v
both_sides ks (a ∷ v ∷ w ∷ ps) = none

unfoldable pub segment : Keys → List ℕ → Option Segment
unfolding both_sides split
segment ks p = both_sides ks (split 61 p)

-- a segment in front of those that were read, if both were
unfoldable pub ahead : Option Segment → Option (List Segment) → Option (List Segment)
ahead none gs = none
ahead (some g) none = none
ahead (some g) (some gs) = some (g ∷ gs)

-- the segments between slashes, the last slash being the end of the text
unfoldable pub closed : Keys → List (List ℕ) → Option (List Segment)
unfolding ahead segment non_empty
closed ks [] = none
closed ks (p ∷ []) = cond (non_empty p) none (some [])
closed ks (p ∷ q ∷ ps) = ahead (segment ks p) (closed ks (q ∷ ps))

-- "one or more of `/key=value`, then `/`", nothing before or after
unfoldable pub in_slashes : Keys → List (List ℕ) → Option (List Segment)
unfolding closed non_empty
in_slashes ks [] = none
in_slashes ks (p ∷ []) = none
in_slashes ks (p ∷ q ∷ []) = none
in_slashes ks (p ∷ q ∷ r ∷ ps) = cond (non_empty p) none (closed ks (q ∷ r ∷ ps))

unfoldable pub read_marked : Keys → Option (List ℕ) → Option (List Segment)
unfolding in_slashes split
read_marked ks none = none
read_marked ks (some s) = in_slashes ks (split 47 s)

-- what is left of a record text after a slash that is not its last: further segments and slashes, or nothing
unfoldable pub closed_marked : Keys → Option (List ℕ) → Option (List Segment)
unfolding closed split
closed_marked ks none = none
closed_marked ks (some s) = closed ks (split 47 s)

unfoldable pub read_rest : Keys → List ℕ → Option (List Segment)
unfolding closed_marked symbols
read_rest ks s = closed_marked ks (symbols s)

-- the segments of a text in order, or none where it is no record text
unfoldable pub read_segments : Keys → List ℕ → Option (List Segment)
unfolding read_marked symbols
read_segments ks s = read_marked ks (symbols s)
