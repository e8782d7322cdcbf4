-- What a record text names, kept by places in the text.
-- Assumes nothing.
use Rattle.std.specs.Prelude.{ℕ, ◌+◌, ◌*◌, ◌≤◌, min, ◌≡◌, Bool, true, false, ◌&&◌, ◌||◌, not, cond, List, leb, ltb, eqb, length, get_or, replicate, set}
use Rattle.oraddr.specs.Bounds.{G, GQ, I, S, most, own_levels}
use Rattle.ortext_segments.specs.Keys.{ou_key, dd_key, pn_key}
use Rattle.ortext_segments.specs.Segments.{unknown}
use Rattle.ortext_segments.specs.Scan.{span_text}
use Rattle.ortext_segments.specs.declared.scan.Span.{Span}
use Rattle.ortext_segments.specs.declared.scan.Segment.{Segment as Found}
use Rattle.ortext_named.specs.declared.named.DdPlaces.{DdPlaces}
use Rattle.ortext_named.specs.declared.named.Named.{Named}

-- ---- taking a segment

abbrev pub no_span : Span
no_span = record { start = 0; len = 0 }

-- the place of what is named under a key that stands once
abbrev pub place_at : Named → ℕ → Span
place_at m k = get_or m.once k no_span

abbrev pub is_absent : Span → Bool
is_absent p = eqb p.len 0

-- nothing is named
abbrev pub nothing : Named
nothing =
    record {
      once = replicate unknown no_span;
      units = replicate most no_span;
      unit_count = 0;
      dds = replicate most (record { kind = no_span; value = no_span });
      dd_count = 0;
      again = false;
      bad = false;
    }

-- a key is unknown or repeated, a value is empty, or a fifth unit or DD is named
abbrev pub spoiled : Named → Named
spoiled m =
    record { once = m.once; units = m.units; unit_count = m.unit_count; dds = m.dds; dd_count = m.dd_count; again = m.again; bad = true }

unfoldable pub with_once : Named → ℕ → Span → Named
with_once m k v =
    cond (is_absent (place_at m k) && not (is_absent v))
    (record { once = set m.once k v; units = m.units; unit_count = m.unit_count; dds = m.dds; dd_count = m.dd_count; again = m.again; bad = m.bad })
    (spoiled m)

unfoldable pub with_unit : Named → Span → Named
with_unit m v =
    cond (ltb m.unit_count most)
    (record { once = m.once; units = set m.units m.unit_count v; unit_count = m.unit_count + 1; dds = m.dds; dd_count = m.dd_count; again = m.again; bad = m.bad })
    (spoiled m)

unfoldable pub with_dd : Named → DdPlaces → Named
with_dd m d =
    cond (ltb m.dd_count most)
    (record { once = m.once; units = m.units; unit_count = m.unit_count; dds = set m.dds m.dd_count d; dd_count = m.dd_count + 1; again = m.again; bad = m.bad })
    (spoiled m)

-- a segment whose key is no settled level's
unfoldable pub with_found : Named → Found → Named
unfolding with_once with_unit with_dd
with_found m f =
    cond (eqb f.key ou_key) (with_unit m f.value)
    (cond (eqb f.key dd_key) (with_dd m (record { kind = f.kind; value = f.value }))
    (cond (ltb f.key unknown) (with_once m f.key f.value) (spoiled m)))

-- the first n levels being settled
unfoldable pub take_found : ℕ → Named → Found → Named
unfolding with_found
take_found n m f =
    cond (leb (min n own_levels) f.key) (with_found m f)
    (record { once = m.once; units = m.units; unit_count = m.unit_count; dds = m.dds; dd_count = m.dd_count; again = true; bad = m.bad })

-- "PN meets S, G, I or GQ"
unfoldable pub is_beside : Named → Bool
is_beside m =
    not (is_absent (place_at m pn_key))
    && (not (is_absent (place_at m S)) || not (is_absent (place_at m G)) || not (is_absent (place_at m I)) || not (is_absent (place_at m GQ)))

-- ---- places in the text

-- A place in a text, at most twice as long as what it says: each `$` quotes a character.
pub record Sound (s : List ℕ) (p : Span) : Type 0 where
  pub inside : p.start + p.len ≤ length s
  pub half : p.len ≤ 2 * length (span_text s p)

-- so are all places, and they are no more than a record has
pub record AllSound (s : List ℕ) (m : Named) : Type 0 where
  pub once-room : length m.once ≡ unknown
  pub units-room : length m.units ≡ most
  pub dds-room : length m.dds ≡ most
  pub once : (k : ℕ) → Sound s (place_at m k)
  pub few-units : m.unit_count ≤ most
  pub few-dds : m.dd_count ≤ most
  pub units : (i : ℕ) → Sound s (get_or m.units i no_span)
  pub kinds : (i : ℕ) → Sound s (get_or m.dds i (record { kind = no_span; value = no_span })).kind
  pub values : (i : ℕ) → Sound s (get_or m.dds i (record { kind = no_span; value = no_span })).value
