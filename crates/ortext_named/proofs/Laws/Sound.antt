-- The places that are held lie in the text, however many segments are taken.
-- Assumes nothing.
use mathlib.Core.Path.{◌≡◌, refl, ap, ◌∙◌}
use Prim.Native.Nat.{ℕ, zero, suc}
use native.Mathlib.Omega.{arith}
use mathlib.Core.Bool.{not, ◌&&◌}
use mathlib.Core.List.{List, [], ◌∷◌}
use borrow.Author.Tests.{ltb-true}
use lib.Dec.{eqb, ltb}
use lib.ListN.{get_or, replicate, set, length-set}
use Rattle.chars.proofs.Laws.Lists.{by_test}
use Rattle.oraddr.specs.Bounds.{most}
use Rattle.ortext_segments.specs.Keys.{dd_key, ou_key}
use Rattle.ortext_segments.specs.Segments.{unknown}
use Rattle.ortext_segments.specs.declared.scan.Segment.{Segment as Found}
use Rattle.ortext_named.specs.Named.{AllSound, Sound, is_absent, no_span, nothing, place_at, spoiled, with_dd, with_found, with_once, with_unit}
use Rattle.ortext_named.specs.declared.named.DdPlaces.{DdPlaces}
use Rattle.ortext_named.specs.declared.named.Named.{Named}

-- ---- a further segment

each_set : {A : Type 0} (P : A → Type 0) (l : List A) (k : ℕ) (v d : A) → P v → ((j : ℕ) → P (get_or l j d)) → (j : ℕ) → P (get_or (set l k v) j d)
each_set P [] k v d h f j = f j
each_set P (x ∷ l) zero v d h f zero = h
each_set P (x ∷ l) zero v d h f (suc j) = f (suc j)
each_set P (x ∷ l) (suc k) v d h f zero = f zero
each_set P (x ∷ l) (suc k) v d h f (suc j) = each_set P l k v d h (λ i. f (suc i)) j

module _ (s : List ℕ) (m : Named) (h : AllSound s m) (f : Found) (v : Sound s f.value) (k : Sound s f.kind) where
  sound-spoiled : AllSound s (spoiled m)
  sound-spoiled = record { once-room = h.once-room; units-room = h.units-room; dds-room = h.dds-room; once = h.once; few-units = h.few-units; few-dds = h.few-dds; units = h.units; kinds = h.kinds; values = h.values }

  sound_unit : AllSound s (with_unit m f.value)
  unfolding with_unit
  sound_unit =
      by_test (ltb m.unit_count most)
      (λ e. rw e (record { once-room = h.once-room; units-room = length-set m.units m.unit_count f.value ∙ h.units-room; dds-room = h.dds-room; once = h.once; few-units = omega (arith, ltb-true m.unit_count most e); few-dds = h.few-dds; units = each_set (Sound s) m.units m.unit_count f.value no_span v h.units; kinds = h.kinds; values = h.values }))
      (λ e. rw e sound-spoiled)

  abbrev places : DdPlaces
  places = record { kind = f.kind; value = f.value }

  sound-dd : AllSound s (with_dd m places)
  unfolding with_dd
  sound-dd =
      by_test (ltb m.dd_count most)
      (λ e. rw e (record { once-room = h.once-room; units-room = h.units-room; dds-room = length-set m.dds m.dd_count places ∙ h.dds-room; once = h.once; few-units = h.few-units; few-dds = omega (arith, ltb-true m.dd_count most e); units = h.units; kinds = each_set (λ d. Sound s d.kind) m.dds m.dd_count places (record { kind = no_span; value = no_span }) k h.kinds; values = each_set (λ d. Sound s d.value) m.dds m.dd_count places (record { kind = no_span; value = no_span }) v h.values }))
      (λ e. rw e sound-spoiled)

  sound-once : AllSound s (with_once m f.key f.value)
  unfolding with_once
  sound-once =
      by_test (is_absent (place_at m f.key) && not (is_absent f.value))
      (λ e. rw e (record { once-room = length-set m.once f.key f.value ∙ h.once-room; units-room = h.units-room; dds-room = h.dds-room; once = each_set (Sound s) m.once f.key f.value no_span v h.once; few-units = h.few-units; few-dds = h.few-dds; units = h.units; kinds = h.kinds; values = h.values }))
      (λ e. rw e sound-spoiled)

  pub sound-found : AllSound s (with_found m f)
  unfolding with_found
  sound-found =
      by_test (eqb f.key ou_key) (λ e. rw e sound_unit)
      (λ e. by_test (eqb f.key dd_key) (λ d. rw (e, d) sound-dd)
      (λ d. by_test (ltb f.key unknown) (λ l. rw (e, d, l) sound-once) (λ l. rw (e, d, l) sound-spoiled)))

-- ---- nothing named

pub get_d_own : {A : Type 0} (n j : ℕ) (d : A) → get_or (replicate n d) j d ≡ d
get_d_own zero j d = refl
get_d_own (suc n) zero d = refl
get_d_own (suc n) (suc j) d = get_d_own n j d

no_sound : (s : List ℕ) → Sound s no_span
no_sound s = record { inside = omega arith; half = omega arith }

pub sound-nothing : (s : List ℕ) → AllSound s nothing
sound-nothing s =
    record {
      once-room = refl;
      units-room = refl;
      dds-room = refl;
      once = λ k. rw (get_d_own unknown k no_span) (no_sound s);
      few-units = omega arith;
      few-dds = omega arith;
      units = λ k. rw (get_d_own most k no_span) (no_sound s);
      kinds = λ k. rw (ap (λ d. d.kind) (get_d_own {A = DdPlaces} most k (record { kind = no_span; value = no_span }))) (no_sound s);
      values = λ k. rw (ap (λ d. d.value) (get_d_own {A = DdPlaces} most k (record { kind = no_span; value = no_span }))) (no_sound s);
    }
