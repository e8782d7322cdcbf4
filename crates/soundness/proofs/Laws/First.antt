-- The first candidates of an R row: what the judgement on each asks of it, and what it says of the row.
-- Assumes nothing.
use mathlib.Core.Path.{◌≡◌, refl, sym, ap, subst, ◌∙◌}
use mathlib.Core.Bool.{true, false}
use mathlib.Core.List.{List, [], ◌∷◌, ◌++◌, Memᴰ}
use Prim.Native.Nat.{ℕ, ◌+◌, ◌≤◌, ◌<◌}
use native.Mathlib.Omega.{arith}
use borrow.Author.Tests.{eqb-false, eqb-true, leb-true}
use lib.Dec.{eqb}
use lib.ListN.{length, get_or, take, drop, length-drop, length-reverse}
use lib.Seq.{length-take-le}
use Rattle.chars.specs.Parts.{split}
use Rattle.chars.proofs.Laws.Lists.{by_test}
use Rattle.oraddr.specs.Canonical.{canonical_record}
use Rattle.oraddr.specs.View.{empty_record, view}
use Rattle.oraddr.specs.declared.record.Record.{Record}
use Rattle.mailaddr.specs.Domain.{parts_of}
use Rattle.table.specs.Table.{Row, Table, Token}
use Rattle.table.specs.Formed.{Formed}
use Rattle.table.specs.Lines.{is_row, longest_row_domain}
use Rattle.table_settle.specs.Settle.{add_levels, begun}
use Rattle.table_settle.proofs.Laws.Settled.{levels_made}
use Rattle.mapping.specs.ToAddress.{is_carrier}
use Rattle.soundness.specs.Check.{FirstBack, candidate_of}
use Rattle.soundness.specs.Folded.{domain_row, token_table}
use Rattle.soundness.specs.Labels.{fresh, label, label_limit, odd_label}
use Rattle.soundness.specs.Sound.{comes_back}
use Rattle.soundness.specs.Tokens.{Back, Tried, pad}
use Rattle.soundness.proofs.Laws.Candidates.{IsCandidate, bare-back, bare_candidate, plain_back, plain_candidate, two_back, two_candidate}
use Rattle.soundness.proofs.Laws.Folded.{all_mem, few-fold, row-fields, row-path}
use Rattle.soundness.proofs.Laws.Fresh.{fresh-free}

-- ---- candidates

-- a record that is a candidate: what its judgement asks
candidate_asks : (t : Table) (ts : List Token) (r : Record) → r ≡ candidate_of ts → IsCandidate t ts → (canonical_record r ≡ true) × (is_carrier t (view r) ≡ false)
candidate_asks t ts r e k = (ap canonical_record e ∙ k.canonical, ap (λ (x : Record). is_carrier t (view x)) e ∙ k.free)

-- the domain's parts, counted from the left
pub parts-count : (d : List ℕ) → length (split 46 d) ≡ length (parts_of d)
unfolding parts_of
parts-count d = sym (length-reverse (split 46 d))

-- the first three bytes of a label with `+` behind
odd-label : (n : ℕ) → take 3 (odd_label n) ≡ label n
unfolding label odd_label
odd-label n = refl

-- so these three are a label's
pub label-length : (n : ℕ) (bytes : List ℕ) → bytes ≡ odd_label n → 3 ≡ length (take 3 bytes)
unfolding label odd_label
label-length n bytes b = ap (λ (s : List ℕ). length (take 3 s)) (sym b)

-- with its `+` it is whole
odd_whole : (n : ℕ) → take 4 (odd_label n) ≡ odd_label n
unfolding label odd_label
odd_whole n = refl

module _ (t : Table) (f : Formed t) (r : Row) (m : Memᴰ r t.to_domain) where
  row : is_row longest_row_domain r ≡ true
  row = all_mem (is_row longest_row_domain) t.to_domain f.domains m

  -- no level of its path is refused
  pub path-added : (add_levels 0 r.path (begun empty_record)).number ≡ 0
  path-added = (levels_made r.path (row-fields r row) (leb-true (length r.path) 8 (row-path r row).1)).0

  -- its fresh number has three digits
  pub fresh-small : (n : ℕ) → n ≡ fresh (token_table t) (domain_row r) → n < label_limit
  fresh-small n e = omega (arith, (fresh-free (token_table t) (domain_row r) (few-fold t f)).0)

  -- the levels of its path
  module _ (q : Record) (e : q ≡ candidate_of r.path) where
    pub plain_asks : (canonical_record q ≡ true) × (is_carrier t (view q) ≡ false)
    plain_asks = candidate_asks t r.path q e (plain_candidate t f r m)

    pub plain_tried : comes_back t q ≡ true → Back (token_table t) (pad (domain_row r).key)
    plain_tried h = plain_back t f r m (ap (comes_back t) (sym e) ∙ h)

  -- a path of two fields, or of three, with a fresh token behind it: a label with its `+`, or without
  module _ (n size : ℕ) (k : ℕ) (l : k ≡ length r.path) (h : (2 ≤ k) × (k ≤ 3)) (four : k ≡ 2 → size ≡ 4) (less : (k ≡ 2 → ⊥) → size ≡ 3)
      (q : Record) (e : q ≡ candidate_of (r.path ++ take size (odd_label n) ∷ [])) where
    made : (s : Token) → take size (odd_label n) ≡ s → q ≡ candidate_of (r.path ++ s ∷ [])
    made s h = e ∙ ap (λ (x : Token). candidate_of (r.path ++ x ∷ [])) h

    with_odd : k ≡ 2 → q ≡ candidate_of (r.path ++ odd_label n ∷ [])
    with_odd two = made (odd_label n) (ap (λ (m : ℕ). take m (odd_label n)) (four two) ∙ odd_whole n)

    with_label : (k ≡ 2 → ⊥) → q ≡ candidate_of (r.path ++ label n ∷ [])
    with_label other = made (label n) (ap (λ (m : ℕ). take m (odd_label n)) (less other) ∙ odd-label n)

    three : (k ≡ 2 → ⊥) → k ≡ 3
    three other = omega (arith, h.0, h.1)

    pub fresh_asks : (canonical_record q ≡ true) × (is_carrier t (view q) ≡ false)
    fresh_asks =
        by_test (eqb k 2)
        (λ b. let two : k ≡ 2 = eqb-true k 2 b in candidate_asks t (r.path ++ odd_label n ∷ []) q (with_odd two) (two_candidate t f r m (sym l ∙ two) n))
        (λ b.
        let other : k ≡ 2 → ⊥ = eqb-false k 2 b in
        candidate_asks t (r.path ++ label n ∷ []) q (with_label other) (bare_candidate t f r m (sym l ∙ three other) n))

    pub fresh_tried : n ≡ fresh (token_table t) (domain_row r) → comes_back t q ≡ true → Tried (token_table t) (domain_row r) (eqb k 3)
    fresh_tried g c =
        by_test (eqb k 2)
        (λ b. let two : k ≡ 2 = eqb-true k 2 b in rw two (two_back t f r m (sym l ∙ two) n g (ap (comes_back t) (sym (with_odd two)) ∙ c)))
        (λ b.
        let other : k ≡ 2 → ⊥ = eqb-false k 2 b in
        rw (three other) (bare-back t f r m (sym l ∙ three other) n g (ap (comes_back t) (sym (with_label other)) ∙ c)))

-- ---- the first candidates of a row

module _ (t : Table) (r : Row) (k : ℕ) (l : k ≡ length r.path) where
  pub first_two : k ≡ 2 → Tried (token_table t) (domain_row r) (eqb k 3) → FirstBack t r
  first_two e p =
      record {
        plain = λ h. absurd (omega arith);
        two = λ h. subst (Tried (token_table t) (domain_row r)) (ap (λ (n : ℕ). eqb n 3) e) p;
        bare = λ h. absurd (omega arith);
      }

  module _ (other : k ≡ 2 → ⊥) (p : Back (token_table t) (pad (domain_row r).key)) where
    pub first_plain : (k ≡ 3 → ⊥) → FirstBack t r
    first_plain h = record { plain = λ n. p; two = λ e. absurd (other (l ∙ e)); bare = λ e. absurd (h (l ∙ e)) }

    -- the third field stands at a place of the text, n bytes long
    pub first-named : (s : List ℕ) (at n : ℕ) → at + n ≤ length s → take n (drop at s) ≡ get_or r.path 2 [] → (n ≡ 0 → ⊥) → FirstBack t r
    first-named s at n w d h =
        record {
          plain = λ e. p;
          two = λ e. absurd (other (l ∙ e));
          bare = λ e z. absurd (h (sym (length-take-le n (drop at s) (omega (arith, length-drop at s))) ∙ ap length (d ∙ z)));
        }

    pub first-bare : k ≡ 3 → Tried (token_table t) (domain_row r) (eqb k 3) → FirstBack t r
    first-bare e q =
        record {
          plain = λ n. p;
          two = λ h. absurd (other (l ∙ h));
          bare = λ h z. subst (Tried (token_table t) (domain_row r)) (ap (λ (n : ℕ). eqb n 3) e) q;
        }
