-- What the reader of record text answers by places in the text: a span is a start and a length.
-- Assumes nothing.
use Rattle.std.specs.Prelude.{◌≡◌, ◌||◌, cond, List, [], ◌∷◌, ℕ, ◌+◌, ◌*◌, ◌≤◌, ◌<◌, eqb, length, get_or, take, drop, Option, None, Some}
use Rattle.std.proofs.Math.Option.{none, some}
use Rattle.chars.specs.Class.{is_printable}
use Rattle.ortext_segments.specs.Keys.{keys, dd_key, short_keys}
use Rattle.ortext_segments.specs.Segments.{Segment, ahead, read_rest, unknown, unquoted}
use Rattle.ortext_segments.specs.declared.scan.Span.{Span}
use Rattle.ortext_segments.specs.declared.scan.Segment.{Segment as Found}

-- further by n
unfoldable pub further : ℕ → Option ℕ → Option ℕ
further n None = None
further n (Some k) = Some (n + k)

-- how far a type or a value goes: up to the first `/` or `=` that is not quoted; none where there is none, or a `$` quotes
-- what it may not
unfoldable pub stop_run : List ℕ → Option ℕ
unfolding further is_printable
stop_run [] = None
stop_run (x ∷ []) = cond (eqb x 47 || eqb x 61) (Some 0) None
stop_run (x ∷ y ∷ s) =
    cond (eqb x 47 || eqb x 61) (Some 0)
    (cond (eqb x 36) (cond (is_printable y) (further 2 (stop_run s)) None) (further 1 (stop_run (y ∷ s))))

-- what stands at a span, the quoting taken off
unfoldable pub span_text : List ℕ → Span → List ℕ
unfolding unquoted
span_text s p = unquoted (take p.len (drop p.start s))

-- the type of a DD: at its span, or, for a short key, whose span starts at 0, what the key spells; no other key has a type
unfoldable pub kind_text : List ℕ → ℕ → Span → List ℕ
unfolding span_text keys
kind_text s key p = cond (eqb key dd_key) (cond (eqb p.start 0) (get_or keys short_keys []) (span_text s p)) []

unfoldable pub found_segment : List ℕ → Found → Segment
unfolding kind_text span_text
found_segment s f = record { key = f.key; kind = kind_text s f.key f.kind; value = span_text s f.value }

-- the segment whose value starts at v and goes as far as said: up to a slash, and no other stop
unfoldable pub value_up_to : List ℕ → ℕ → Span → ℕ → Option ℕ → Option Found
value_up_to s key kind v None = None
value_up_to s key kind v (Some n) =
    cond (eqb (get_or s (v + n) 0) 47)
    (Some (record { key = key; kind = kind; value = record { start = v; len = n }; next = v + n + 1 }))
    None

unfoldable pub value_from : List ℕ → ℕ → Span → ℕ → Option Found
unfolding value_up_to stop_run
value_from s key kind v = value_up_to s key kind v (stop_run (drop v s))

-- the segment of a DD whose type starts at k and goes as far as said: up to an equals sign, and no other stop
unfoldable pub kind_up_to : List ℕ → ℕ → Option ℕ → Option Found
unfolding value_from
kind_up_to s k None = None
kind_up_to s k (Some n) =
    cond (eqb (get_or s (k + n) 0) 61)
    (value_from s dd_key (record { start = k; len = n }) (k + n + 1))
    None

unfoldable pub kind_from : List ℕ → ℕ → Option Found
unfolding kind_up_to stop_run
kind_from s k = kind_up_to s k (stop_run (drop k s))

-- What is left of a text from a place on reads as the segment that was found and what is left behind it. The spans lie before
-- what is left, and are at most twice as long as what they say.
pub record Segmented (s : List ℕ) (from : ℕ) (f : Found) : Type 0 where
  pub reads : read_rest keys (drop from s) ≡ ahead (some (found_segment s f)) (read_rest keys (drop f.next s))
  pub moves : from < f.next
  pub inside : f.next ≤ length s
  pub behind : 0 < f.value.start
  pub within : f.value.start + f.value.len < f.next
  pub half : f.value.len ≤ 2 * length (span_text s f.value)
  pub kind-within : f.kind.start + f.kind.len < f.next
  pub kind-half : f.kind.len ≤ 2 * length (span_text s f.kind)
  pub numbered : f.key ≤ unknown

-- A segment, or that the text does not read.
unfoldable pub Segmenting : List ℕ → ℕ → Option Found → Type 0
Segmenting s from (Some f) = Segmented s from f
Segmenting s from None = read_rest keys (drop from s) ≡ none
