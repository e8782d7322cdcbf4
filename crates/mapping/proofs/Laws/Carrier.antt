-- Laws of carriers: an address carried under a path, the levels, the name and the DDs of a carrier, and the address out of its value.
-- Assumes nothing.
use mathlib.Core.Path.{◌≡◌, refl, sym, ap, ◌∙◌}
use mathlib.Core.Bool.{true, false, not, ◌&&◌, cond}
use mathlib.Core.List.{List, [], ◌∷◌, map}
use mathlib.Core.Option.{Option, none, some}
use Prim.Native.Nat.{ℕ, zero, suc, ◌+◌, ◌≤◌, ◌<◌}
use native.Mathlib.Nat.{le_of_suc-le-suc, not-suc-le-zero, zero-add}
use native.Mathlib.Numerals.{add-one}
use native.Mathlib.Omega.{arith}
use borrow.Author.Tests.{eq-eqb, eqb-true, le-ltb, lt-ltb}
use lib.Dec.{eqb}
use lib.ListN.{length, get_or, take, drop}
use lib.Seq.{take_all}
use Rattle.std.specs.Prelude.{Some, None, Ok, Err}
use Rattle.std.specs.List.{list_all}
use Rattle.std.proofs.Math.Dec.{eqb-suc-zero}
use Rattle.std.proofs.lemmas.Option.{none-some, same_Some}
use Rattle.chars.specs.Lists.{all, non_empty}
use Rattle.chars.specs.Case.{agree, same_text}
use Rattle.chars.specs.Write.{front}
use Rattle.chars.proofs.Laws.Lists.{and_both, and_left, and_right, bool_same, by_test}
use Rattle.chars.proofs.Laws.Write.{length_front, take-front}
use Rattle.oraddr.specs.Add.{Outcome, add_dd, told}
use Rattle.oraddr.specs.Attributes.{Dd, no_dd}
use Rattle.oraddr.specs.View.{empty_record}
use Rattle.oraddr.specs.declared.add.Addition.{Addition}
use Rattle.mailaddr.specs.Code.{coded, decoded}
use Rattle.mailaddr.specs.Shape.{Address, longest_address, shape_of}
use Rattle.mailaddr.specs.Answers.{Decoding, from_shape, shape_answer, shaping}
use Rattle.mailaddr.specs.declared.shape.AddressFault.{AddressFault}
use Rattle.mailaddr.specs.declared.shape.Parted.{Parted}
use Rattle.mailaddr.proofs.Laws.Code.{decoded-length}
use Rattle.table.specs.Table.{Token}
use Rattle.table.specs.Rows.{between}
use Rattle.table_lookup.specs.Lookup.{begins}
use Rattle.table_lookup.specs.Looked.{Ended, tokens_from, level_tokens}
use Rattle.table_settle.specs.Settle.{add_levels, begun}
use Rattle.table_lookup.proofs.Laws.Begins.{begins-length}
use Rattle.table_lookup.proofs.Laws.Paths.{empty-same}
use Rattle.mapping.specs.Results.{mapped, refused_record}
use Rattle.mapping.specs.Carried.{carrier_of, carrier_type, carrying, is_none, longest_coded}
use Rattle.mapping.specs.ToAddress.{carried_value, has_levels, in_shape, is_one_carrier}

-- ---- an address carried under a path

module _ (ls : List Token) (s : List ℕ) where
  pub carrying_long : longest_coded < length (coded s) → refused_record 3 ≡ carrying ls s
  unfolding carrying
  carrying_long h = rw (lt-ltb longest_coded (length (coded s)) h)

  -- the path added to an empty record, and then the DD
  pub carrying-done : (p d : Addition) → length (coded s) ≤ longest_coded → told p ≡ add_levels 0 ls (begun empty_record) → told d ≡ add_dd p.record carrier_type (coded s)
      → mapped d.record ≡ carrying ls s
  unfolding carrying carrier_of
  carrying-done p d h a b =
      rw (le-ltb longest_coded (length (coded s)) h)
      (ap mapped (ap (λ o. o.record') b ∙ ap (λ (o : Outcome). (add_dd o.record' carrier_type (coded s)).record') a))

-- what the first bytes of a buffer are, into which a text was put that fits
pub front_is : (t old : List ℕ) (n room : ℕ) → n ≡ length t → n ≤ room → take n (front (take room t) old) ≡ t
front_is t old n room e h = rw (take_all room t (omega arith), e) (take-front t old)

-- ---- the levels of a carrier

-- an absent level is an empty text
blank_same : (t : Token) → not (non_empty t) ≡ same_text [] t
unfolding non_empty same_text agree
blank_same [] = refl
blank_same (x ∷ t) = refl

-- of three places in order the first and the last are one exactly where each two are
places_same : (a b c : ℕ) → a ≤ b → b ≤ c → (eqb a b && eqb b c) ≡ eqb a c
places_same a b c h k =
    bool_same (eqb a b && eqb b c) (eqb a c)
    (λ e. eq-eqb a c (eqb-true a b (and_left (eqb a b) (eqb b c) e) ∙ eqb-true b c (and_right (eqb a b) (eqb b c) e)))
    (λ e. let z = eqb-true a c e in and_both (eq-eqb a b (omega arith)) (eq-eqb b c (omega arith)))

module _ (s ends : List ℕ) (to : ℕ) (h : Ended s ends to) where
  ends_rise : (k n : ℕ) → k + n ≡ to → get_or ends k 0 ≤ get_or ends to 0
  ends_rise k zero e = let z : k ≡ to = omega arith in rw z (omega arith)
  ends_rise k (suc n) e = omega (arith, rw add-one at (h.ordered k (omega arith)), ends_rise (suc k) n (omega arith))

  -- the levels from one on are absent exactly where it starts at the last one's end
  blank_from : (k n : ℕ) → k + n ≡ to → all (λ l. not (non_empty l)) (tokens_from s ends k n) ≡ eqb (get_or ends k 0) (get_or ends to 0)
  unfolding all tokens_from
  blank_from k zero e = sym (eq-eqb (get_or ends k 0) (get_or ends to 0) (ap (λ (i : ℕ). get_or ends i 0) (omega arith)))
  blank_from k (suc n) e =
      let a = get_or ends k 0 in
      let b = get_or ends (suc k) 0 in
      let o : a ≤ b = rw add-one at (h.ordered k (omega arith)) in
      let i : b ≤ length s = rw add-one at (h.inside k (omega arith)) in
      rw (blank_same (between s a b), ← empty-same s a b o i, blank_from (suc k) n (omega arith))
      (places_same a b (get_or ends to 0) o (ends_rise (suc k) n (omega arith)))

  blank_behind : (k n m at : ℕ) → k + n ≡ to → m ≤ n → k + m ≡ at → all (λ l. not (non_empty l)) (drop m (tokens_from s ends k n)) ≡ eqb (get_or ends at 0) (get_or ends to 0)
  unfolding tokens_from
  blank_behind k n zero at e l f = let z : at ≡ k = omega arith in rw z (blank_from k n e)
  blank_behind k zero (suc m) at e l f = absurd (not-suc-le-zero l)
  blank_behind k (suc n) (suc m) at e l f = blank_behind (suc k) n m at (omega arith) (le_of_suc-le-suc l) (omega arith)

-- the levels against those of a path, by how many of them match
module _ (s ends : List ℕ) (path : List Token) where
  path-most : begins path (tokens_from s ends 0 8) ≡ true → length path ≤ 8
  unfolding tokens_from
  path-most t = begins-length same_text path (tokens_from s ends 0 8) t

  pub levels_other : None ≡ cond (begins path (tokens_from s ends 0 8)) (Some (0 + length path)) None → false ≡ has_levels path (level_tokens s ends)
  unfolding has_levels level_tokens
  levels_other e =
      by_test (begins path (tokens_from s ends 0 8))
      (λ t. absurd (none-some (0 + length path) (rw t at e)))
      (λ t. rw t)

  module _ (k : ℕ) (e : Some k ≡ cond (begins path (tokens_from s ends 0 8)) (Some (0 + length path)) None) where
    matched : (begins path (tokens_from s ends 0 8) ≡ true) × (k ≡ length path)
    matched =
        by_test (begins path (tokens_from s ends 0 8))
        (λ t. (t, same_Some k (0 + length path) (rw t at e) ∙ zero-add (length path)))
        (λ t. absurd (none-some k (sym (rw t at e))))

    pub levels-most : k ≤ 8
    levels-most = omega (arith, matched.1, path-most matched.0)

    pub levels-rest : Ended s ends 8 → eqb (get_or ends k 0) (get_or ends 8 0) ≡ has_levels path (level_tokens s ends)
    unfolding has_levels level_tokens
    levels-rest h =
        rw matched.0 (sym (blank_behind s ends 8 h 0 8 (length path) k refl (path-most matched.0) (zero-add (length path) ∙ sym matched.1)))

-- ---- the name of a carrier

blank_test : (t : Token) → eqb (length t) 0 ≡ not (non_empty t)
unfolding non_empty
blank_test [] = refl
blank_test (x ∷ t) = eqb-suc-zero (length t)

pub all_blank : {A : Type 0} (f : A → Token) (s : List A) (k : ℕ)
    → list_all (λ x. eqb (length (f x)) 0) (drop k s) ≡ all (λ t. not (non_empty t)) (drop k (map f s))
unfolding all
all_blank f [] zero = refl
all_blank f [] (suc k) = refl
all_blank f (x ∷ s) zero = rw (blank_test (f x), all_blank f s 0)
all_blank f (x ∷ s) (suc k) = all_blank f s k

-- ---- the DDs of a carrier

pub not-one : (ds : List Dd) → (length ds ≡ 1 → ⊥) → false ≡ is_one_carrier ds
unfolding is_one_carrier
not-one [] h = refl
not-one (d ∷ []) h = absurd (h refl)
not-one (d ∷ e ∷ ds) h = refl

pub only_one : (ds : List Dd) → length ds ≡ 1 → same_text carrier_type (get_or ds 0 no_dd).kind ≡ is_one_carrier ds
unfolding is_one_carrier
only_one [] h = absurd (omega arith)
only_one (d ∷ []) h = refl
only_one (d ∷ e ∷ ds) h = absurd (omega arith)

pub first-value : (ds : List Dd) → (get_or ds 0 no_dd).value ≡ carried_value ds
unfolding carried_value no_dd
first-value [] = refl
first-value (d ∷ ds) = refl

-- ---- the address out of a value

-- what was decoded stands at the front of the buffer
module _ (s old new : List ℕ) (n : ℕ) (d : Decoding s old (Some n) new) where
  pub decoded-front : decoded s ≡ some (take n new)
  unfolding Decoding
  decoded-front = d.1 ∙ ap some (sym (rw (d.2, d.3) (take-front d.0 old)))

  pub decoded-fits : length s ≤ length old → (n ≤ length new) × (n ≤ length s)
  unfolding Decoding
  decoded-fits h =
      let l = decoded-length s d.0 d.1 in
      let f : length new ≡ length old = ap length d.3 ∙ length_front d.0 old (omega arith) in
      (omega (arith, d.2), omega (arith, d.2))

-- the text, where its shape is read
shape-read : (s : List ℕ) (p : Parted) (o : Option Address) → shape_answer s (Ok p) ≡ from_shape o → cond (is_none o) none (some s) ≡ some s
unfolding shape_answer from_shape is_none
shape-read s p none e = absurd cc
shape-read s p (some a) e = refl

shape-unread : (s : List ℕ) (f : AddressFault) (o : Option Address) → shape_answer s (Err f) ≡ from_shape o → cond (is_none o) none (some s) ≡ none
unfolding shape_answer from_shape is_none
shape-unread s f none e = refl
shape-unread s f (some a) e = absurd cc

module _ (s : List ℕ) (l : length s ≤ longest_address) where
  pub in_shape-some : (p : Parted) → shape_answer s (Ok p) ≡ shaping s → in_shape (some s) ≡ some s
  unfolding in_shape shaping
  in_shape-some p e = shape-read s p (shape_of s) (e ∙ rw (le-ltb longest_address (length s) l))

  pub in_shape-none : (f : AddressFault) → shape_answer s (Err f) ≡ shaping s → in_shape (some s) ≡ none
  unfolding in_shape shaping
  in_shape-none f e = shape-unread s f (shape_of s) (e ∙ rw (le-ltb longest_address (length s) l))
