-- What judgements say, put together: of candidates, of the rows that a loaded table keeps, and of the whole table, which is sound where all
-- candidates of all rows come back.
-- Assumes nothing.
use Rattle.std.proofs.Common.{Result, Ok, Err, MatchResult}
use mathlib.Core.Path.{◌≡◌, refl, sym, ap, subst, ◌∙◌}
use mathlib.Core.Logic.{◌⊎◌, inl, inr, ⊎_elim}
use mathlib.Core.Bool.{true, false}
use mathlib.Core.List.Memᴰ
use mathlib.Core.List.{List, [], ◌∷◌, ◌++◌, map, Memᴰ}
use mathlib.Core.Option.{some}
use Prim.Native.Nat.{ℕ, zero, suc, ◌+◌, ◌-◌, ◌≤◌, ◌<◌}
use native.Mathlib.Nat.{add-zero}
use native.Mathlib.Omega.{arith}
use lib.Dec.{eqb, leb, ltb}
use lib.ListN.{length, get_or, length-map, get_or-map}
use Rattle.chars.specs.Case.{fold_text}
use Rattle.chars.proofs.Laws.Case.{length-fold}
use Rattle.chars.proofs.Laws.Lists.{and-three, by_test, true_not_false}
use Rattle.chars.proofs.Laws.Seq.{no_length}
use Rattle.oraddr.specs.Add.{Outcome}
use Rattle.oraddr.specs.View.{empty_record}
use Rattle.oraddr.specs.declared.record.Record.{Record}
use Rattle.mailaddr.specs.Domain.{is_domain}
use Rattle.table.specs.Table.{Row, Table, Token}
use Rattle.table.specs.Formed.{Formed}
use Rattle.table.specs.Lines.{is_path, is_row, longest_gateway_domain, longest_row_domain}
use Rattle.table.specs.Rows.{RowInside, places_at, row_at, rows_at, rows_from, table_at}
use Rattle.table_settle.specs.Settle.{Settling, add_levels, begun, no_row, past_bound, past_units, settled, settled_as, settled_from}
use Rattle.table.specs.declared.line as line
use Rattle.table.specs.declared.load as load
use Rattle.table.proofs.Laws.Fields.{between-length}
use Rattle.soundness.specs.Check.{AllFirst, AllSecond, IsAccepted, IsRefused, Judged, told_check}
use Rattle.soundness.specs.Sound.{Sound}
use Rattle.soundness.specs.Fits.{fits}
use Rattle.soundness.specs.Folded.{domain_row, path_row, token_table}
use Rattle.soundness.specs.Tokens as tokens
use Rattle.soundness.specs.Tokens.{Back, Checked, Tok, Tried, pad}
use Rattle.soundness.specs.declared.answers.CheckRefusal.{CheckRefusal}
use Rattle.soundness.specs.declared.answers.CheckRefusal.TheVariants.{Unsound}
use Rattle.soundness.proofs.Laws.Folded.{all_mem}

-- ---- judgements

-- what follows from what was judged was judged too, and a witness is one whatever was judged
pub judged_then : (t : Table) (P Q : Type 0) (c : Result Unit Record) → (P → Q) → Judged t P c → Judged t Q c
judged_then t P Q (Ok _) f j = f j
judged_then t P Q (Err r) f j = j

-- ---- the rows of a loaded table

row-member : (s ns : List ℕ) (i n j : ℕ) → j < n → Memᴰ (row_at s (places_at ns (i + j))) (rows_from s ns i n)
unfolding rows_from
row-member s ns i zero j l = absurd (omega arith)
row-member s ns i (suc n) zero l = Memᴰ.head (ap (λ (k : ℕ). row_at s (places_at ns k)) (add-zero i))
row-member s ns i (suc n) (suc j) l =
    let h : suc i + j ≡ i + suc j = omega arith in
    Memᴰ.tail (subst (λ (k : ℕ). Memᴰ (row_at s (places_at ns k)) (rows_from s ns (suc i) n)) h (row-member s ns (suc i) n j (omega arith)))

pub rows-member : (s ns : List ℕ) (n i : ℕ) → i < n → Memᴰ (row_at s (places_at ns i)) (rows_at s ns n)
unfolding rows_at
rows-member s ns n i l =
    let h : 0 + i ≡ i = omega arith in
    subst (λ (k : ℕ). Memᴰ (row_at s (places_at ns k)) (rows_from s ns 0 n)) h (row-member s ns 0 n i l)

pub row-each : (P : Row → Type 0) (s ns : List ℕ) (i n : ℕ) → ((j : ℕ) → j < i + n → P (row_at s (places_at ns j)))
    → (r : Row) → Memᴰ r (rows_from s ns i n) → P r
unfolding rows_from
row-each P s ns i zero f r m = absurd (Memᴰ.not-nil m)
row-each P s ns i (suc n) f r m =
    ⊎_elim
    (λ e. subst P (sym e) (f i (omega arith)))
    (λ k. row-each P s ns (suc i) n (λ j h. f j (omega arith)) r k)
    (Memᴰ.cases_cons m)

module _ (s ds rs : List ℕ) (t : load.Loaded.Loaded) where
  -- each place is that of a row
  pub path-member : (i : ℕ) → i < t.to_path → Memᴰ (row_at s (places_at ds i)) (table_at s ds rs t).to_path
  unfolding table_at
  path-member i l = rows-member s ds t.to_path i l

  pub domain-member : (i : ℕ) → i < t.to_domain → Memᴰ (row_at s (places_at rs i)) (table_at s ds rs t).to_domain
  unfolding table_at
  domain-member i l = rows-member s rs t.to_domain i l

  -- and each row stands at one
  pub each-path : (P : Row → Type 0) → ((i : ℕ) → i < t.to_path → P (row_at s (places_at ds i))) → (r : Row) → Memᴰ r (table_at s ds rs t).to_path → P r
  unfolding table_at rows_at
  each-path P f r m = row-each P s ds 0 t.to_path (λ i l. f i (omega arith)) r m

  pub each-domain : (P : Row → Type 0) → ((i : ℕ) → i < t.to_domain → P (row_at s (places_at rs i))) → (r : Row) → Memᴰ r (table_at s ds rs t).to_domain → P r
  unfolding table_at rows_at
  each-domain P f r m = row-each P s rs 0 t.to_domain (λ i l. f i (omega arith)) r m

-- a row's domain has the bytes from its place to its end
pub row-length : (s : List ℕ) (p : line.Row.Row) → RowInside s p → length (row_at s p).domain ≡ p.domain_end - p.domain
unfolding row_at
row-length s p h = between-length s p.domain p.domain_end h.domain h.within-domain

row-domain : (n : ℕ) (r : Row) → is_row n r ≡ true → is_domain r.domain ≡ true
unfolding is_row
row-domain n r h = (and-three (leb (length r.domain) n) (is_domain r.domain) (is_path r.path) h).1

-- the gateway's domain is one, and a row's to a path
module _ (t : Table) (f : Formed t) where
  pub gateway-domain : is_domain t.gateway.domain ≡ true
  gateway-domain = row-domain longest_gateway_domain t.gateway f.gateway

  pub path-domain : (r : Row) → Memᴰ r t.to_path → is_domain r.domain ≡ true
  path-domain r m = row-domain longest_row_domain r (all_mem (is_row longest_row_domain) t.to_path f.paths m)

-- where there are tokens to settle there was a row
pub settled-some : (ts : List Token) → settled_from (some ts) ≡ no_row → ⊥
unfolding settled_from settled_as
settled-some ts h =
    let o : Outcome = add_levels 0 ts (begun empty_record) in
    by_test (ltb 8 (length ts))
    (λ e. let p : ◌≡◌ {A = Settling} past_units no_row = rw e at h in
    let z : ◌≡◌ {A = ℕ} 0 1 = cc in absurd (omega arith))
    (λ e. by_test (eqb o.number 0)
    (λ g. let p : ◌≡◌ {A = Settling} (settled (length ts) o.record') no_row = rw (e, g) at h in
    let z : ◌≡◌ {A = ℕ} 0 1 = cc in absurd (omega arith))
    (λ g. let p : ◌≡◌ {A = Settling} past_bound no_row = rw (e, g) at h in
    let z : ◌≡◌ {A = ℕ} 0 1 = cc in absurd (omega arith)))

-- ---- the whole table

-- what each row has after folding
folded_each : (fold : Row → tokens.Row) (P : tokens.Row → Type 0) (rows : List Row) → ((a : Row) → Memᴰ a rows → P (fold a))
    → (r : tokens.Row) → Memᴰ r (map fold rows) → P r
folded_each fold P [] f r m = absurd (Memᴰ.not-nil m)
folded_each fold P (a ∷ rows) f r m =
    ⊎_elim
    (λ e. subst P (sym e) (f a (Memᴰ.head refl)))
    (λ k. folded_each fold P rows (λ b n. f b (Memᴰ.tail n)) r k)
    (Memᴰ.cases_cons m)

-- a level that is omitted was so before folding
omitted_fold : (ts : List Token) (k : ℕ) → get_or (map fold_text ts) k [] ≡ [] → get_or ts k [] ≡ []
unfolding fold_text
omitted_fold ts k e =
    let q : fold_text (get_or ts k []) ≡ [] = sym (get_or-map fold_text ts k []) ∙ e in
    no_length (get_or ts k []) (omega (arith, length-fold (get_or ts k []), ap (λ (s : Tok). length s) q))

-- all candidates are what the check asks for
pub all_checked : (t : Table) → AllFirst t → AllSecond t → Checked fits (token_table t)
all_checked t first second =
    let T : tokens.Table = token_table t in
    record {
      plain = folded_each domain_row (λ r. 3 ≤ length r.key → Back T (pad r.key)) t.to_domain
          (λ r m l. (first r m).plain (omega (arith, length-map r.path fold_text)));
      two = folded_each domain_row (λ r. length r.key ≡ 2 → Tried T r false) t.to_domain
          (λ r m l. (first r m).two (sym (length-map r.path fold_text) ∙ l));
      bare = folded_each domain_row (λ r. length r.key ≡ 3 → get_or r.key 2 [] ≡ [] → Tried T r true) t.to_domain
          (λ r m l e. (first r m).bare (sym (length-map r.path fold_text) ∙ l) (omitted_fold r.path 2 e));
      second = folded_each domain_row
          (λ r. (z : List Tok) → tokens.Target T (r.val ++ z) → 1 ≤ length z → length r.key + length z ≤ 8
          → tokens.fits_from fits (length r.key) z ≡ true → Back T (pad (r.key ++ z)))
          t.to_domain
          (λ r m z target one eight within.
          ⊎_elim
          (λ e. (second r m).gateway z (sym e) one eight within)
          (λ b.
          folded_each path_row (λ p. (domain_row r).val ++ z ≡ p.key → Back T (pad ((domain_row r).key ++ z))) t.to_path
          (λ a n e. (second r m).rows a n z (sym e) one eight within)
          b.0 b.1 b.2)
          target);
    }

-- ---- what the check's caller is told

-- a judgement on the whole table, with a witness as the refusal
pub told-judged : (t : Table) (c : Result Unit Record) (d : Result Unit CheckRefusal) → Judged t (Sound t) c
    → MatchResult c (λ _. d ≡ Ok tt) (λ r. d ≡ Err (Unsound r)) → IsAccepted t (told_check d) ⊎ IsRefused t (told_check d)
told-judged t (Ok _) d j e = rw e (inl (record { number = refl; line = refl; empty = refl; sound = j }))
told-judged t (Err r) d j e = rw e (inr (record { number = refl; line = refl; witness = j }))
