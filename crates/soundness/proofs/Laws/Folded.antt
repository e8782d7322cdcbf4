-- A table that is folded answers as the table itself does, case aside: what begins what, both look-ups, the levels that a domain settles,
-- the levels that go in front of a domain, how a record goes out, the gateway; and it keeps the rules.
-- Assumes nothing.
use mathlib.Core.Path.{◌≡◌, refl, sym, ap, ◌∙◌}
use mathlib.Core.Logic.{◌↔◌, ⊎_elim}
use mathlib.Core.Bool.{Bool, true, false, not, ◌&&◌}
use mathlib.Core.List.Memᴰ
use mathlib.Core.List.{List, [], ◌∷◌, ◌++◌, map, map-append, append-nil, reverse_aux, Memᴰ}
use mathlib.Core.Option
use mathlib.Core.Option.{Option, none, some}
use Prim.Native.Nat.{ℕ, zero, suc, ◌+◌, ◌≤◌}
use native.Mathlib.Omega.{arith}
use borrow.Author.Tests.{leb-true, ne_eqb, not-true}
use lib.Dec.{leb, ltb}
use lib.ListN.{length, drop, length-append, length-map}
use lib.Seq.{append_snoc}
use Rattle.chars.specs.Lists.{all, non_empty}
use Rattle.chars.specs.Case.{equal_text, fold_text, same_text}
use Rattle.chars.specs.Domain.{is_domain_part}
use Rattle.chars.specs.Parts.{split}
use Rattle.chars.proofs.Laws.Lists.{all_ext, all_map, and_both, and_left, and_right, and-three, by_test, true_not_false}
use Rattle.chars.proofs.Laws.Case.{agree_sym, fold_twice, same_folded, same_of, same_sym}
use Rattle.chars.proofs.Laws.Domain.{domain-part-fold, domain-part-label}
use Rattle.chars.proofs.Laws.Seq.{map-drop}
use Rattle.oraddr.proofs.Laws.Canonical.{rule-fold, some_same, unit_same}
use Rattle.ortext_segments.proofs.Laws.Keys.{dot, key-clear}
use Rattle.mailaddr.specs.Domain.{domain_of, in_front, is_domain, parts_of}
use Rattle.mailaddr.proofs.Laws.Domain.{domain-parts, parts-fold, parts-front}
use Rattle.table.specs.Table.{Row, Table, Token}
use Rattle.table.specs.Lines.{are_fields, is_field, is_level, is_path, is_row, longest_row_domain, most_rows, same_domain, same_path}
use Rattle.table.specs.Formed as table
use Rattle.table.specs.Formed.{distinct}
use Rattle.table_lookup.specs.Lookup as lookup
use Rattle.table_lookup.specs.Begins.{begins_by, better_by, look_by, resolve_by, settled_by}
use Rattle.table_lookup.specs.Lookup.{RowKey, by_domain, by_path, extension}
use Rattle.table.proofs.Laws.Rows.{agree-fold}
use Rattle.table_lookup.proofs.Laws.Lookup.{extension-parts}
use Rattle.table_settle.proofs.Laws.Settled.{field_there}
use Rattle.table_lookup.proofs.Laws.Tails.{fold-parts}
use Rattle.mapping.specs.Carried.{is_gateway}
use Rattle.mapping.specs.ToAddress.{extended, plan, plan_by, plan_under}
use Rattle.soundness.specs.Tokens as tokens
use Rattle.soundness.specs.Tokens.{IsPath, Tok, key_of, val_of}
use Rattle.soundness.specs.Folded.{domain_row, fold_tokens, path_row, token_table}

-- ---- looking up

pub begins-fold : (p q : List Token) → lookup.begins p q ≡ tokens.begins (fold_tokens p) (fold_tokens q)
unfolding begins_by
begins-fold [] q = refl
begins-fold (a ∷ p) [] = refl
begins-fold (a ∷ p) (b ∷ q) = rw (same_folded a b, begins-fold p q)

-- rows by their keys, each with what it tells
module _ (key : RowKey) (val : Row → List Tok) where
  abbrev keyed : Row → tokens.Row
  keyed r = record { key = fold_tokens (key r); val = val r }

  better_fold : (q : List Token) (r : Row) (o : Option Row) → Option.map keyed (better_by same_text key q r o) ≡ better_by equal_text key_of (fold_tokens q) (keyed r) (Option.map keyed o)
  unfolding better_by
  better_fold q r none = by_test (lookup.begins (key r) q) (λ e. rw (← begins-fold (key r) q, e)) (λ e. rw (← begins-fold (key r) q, e))
  better_fold q r (some b) =
      by_test (lookup.begins (key r) q && ltb (length (key b)) (length (key r)))
      (λ e. rw (← begins-fold (key r) q, length-map (key b) fold_text, length-map (key r) fold_text, e))
      (λ e. rw (← begins-fold (key r) q, length-map (key b) fold_text, length-map (key r) fold_text, e))

  look-fold : (rows : List Row) (q : List Token) → Option.map keyed (lookup.look key rows q) ≡ tokens.look (map keyed rows) (fold_tokens q)
  unfolding look_by
  look-fold [] q = refl
  look-fold (r ∷ rows) q = better_fold q r (lookup.look key rows q) ∙ ap (better_by equal_text key_of (fold_tokens q) (keyed r)) (look-fold rows q)

pub look-domain-fold : (rows : List Row) (q : List Token) → Option.map path_row (lookup.look by_domain rows q) ≡ tokens.look (map path_row rows) (fold_tokens q)
look-domain-fold rows q = look-fold by_domain (λ r. fold_tokens r.path) rows q

pub look-path-fold : (rows : List Row) (q : List Token) → Option.map domain_row (lookup.look by_path rows q) ≡ tokens.look (map domain_row rows) (fold_tokens q)
look-path-fold rows q = look-fold by_path (λ r. fold_tokens (parts_of r.domain)) rows q

-- ---- the levels that a domain settles

-- what stands behind the tokens of a key
behind-fold : (k q : List Token) → fold_tokens (drop (length k) q) ≡ drop (length (fold_tokens k)) (fold_tokens q)
behind-fold k q = map-drop fold_text (length k) q ∙ ap (λ (n : ℕ). drop n (fold_tokens q)) (sym (length-map k fold_text))

settled-fold : (q : List Token) (o : Option Row) → Option.map fold_tokens (settled_by by_domain by_path q o) ≡ settled_by key_of val_of (fold_tokens q) (Option.map path_row o)
unfolding settled_by
settled-fold q none = refl
settled-fold q (some r) =
    ap some
    (map-append fold_text r.path (drop (length (parts_of r.domain)) q)
    ∙ ap (λ (ts : List Tok). fold_tokens r.path ++ ts) (behind-fold (parts_of r.domain) q))

pub resolve-fold : (t : Table) (d : List ℕ) → Option.map fold_tokens (lookup.resolve t.to_path d) ≡ tokens.resolve (token_table t) (fold_tokens (parts_of d))
unfolding resolve_by
resolve-fold t d =
    settled-fold (parts_of d) (lookup.look by_domain t.to_path (parts_of d))
    ∙ ap (settled_by key_of val_of (fold_tokens (parts_of d))) (look-domain-fold t.to_path (parts_of d))

-- ---- how a record goes out

pub extension-fold : (l : List Token) → fold_tokens (extension l) ≡ extension (fold_tokens l)
unfolding extension
extension-fold [] = refl
extension-fold (x ∷ l) = by_test (is_domain_part x) (λ e. rw (domain-part-fold x, e, extension-fold l)) (λ e. rw (domain-part-fold x, e))

-- a domain with parts put in front of it
extended-parts : (d : List ℕ) (x : List Token) → all is_domain_part x ≡ true → parts_of (extended d x) ≡ parts_of d ++ x
unfolding extended all
extended-parts d [] h = sym (append-nil (parts_of d))
extended-parts d (p ∷ x) h =
    let part = and_left (is_domain_part p) (all is_domain_part x) h in
    extended-parts (in_front p d) x (and_right (is_domain_part p) (all is_domain_part x) h)
    ∙ ap (λ (ps : List Token). ps ++ x) (parts-front p d (key-clear 46 dot p (domain-part-label p part)))
    ∙ append_snoc (parts_of d) p x

module _ (t : Table) (ls : List Token) where
  -- under the R row that is found
  module _ (r : Row) (h : lookup.look by_path t.to_domain ls ≡ some r) where
    pub plan-parts : parts_of (plan t ls).domain ≡ parts_of r.domain ++ extension (drop (length r.path) ls)
    unfolding plan plan_by plan_under
    plan-parts = rw h (extended-parts r.domain (extension (drop (length r.path) ls)) (extension-parts (drop (length r.path) ls)))

    pub plan-from : (plan t ls).from ≡ length (r.path ++ extension (drop (length r.path) ls))
    unfolding plan plan_by plan_under
    plan-from = rw h (sym (length-append r.path (extension (drop (length r.path) ls))))

    x_fold : fold_tokens (extension (drop (length r.path) ls)) ≡ extension (drop (length (domain_row r).key) (fold_tokens ls))
    x_fold = extension-fold (drop (length r.path) ls) ∙ ap extension (behind-fold r.path ls)

    -- the same by the row of tokens
    pub plan-parts-fold : fold_tokens (parts_of (plan t ls).domain) ≡ (domain_row r).val ++ extension (drop (length (domain_row r).key) (fold_tokens ls))
    plan-parts-fold =
        ap fold_tokens plan-parts
        ∙ map-append fold_text (parts_of r.domain) (extension (drop (length r.path) ls))
        ∙ ap (λ (x : List Tok). (domain_row r).val ++ x) x_fold

    pub plan-from-fold : (plan t ls).from ≡ length ((domain_row r).key ++ extension (drop (length (domain_row r).key) (fold_tokens ls)))
    plan-from-fold =
        plan-from
        ∙ sym (length-map (r.path ++ extension (drop (length r.path) ls)) fold_text)
        ∙ ap length
        (map-append fold_text r.path (extension (drop (length r.path) ls)) ∙ ap (λ (x : List Tok). (domain_row r).key ++ x) x_fold)

  -- with no row
  module _ (h : lookup.look by_path t.to_domain ls ≡ none) where
    pub plan-none-from : (plan t ls).from ≡ 0
    unfolding plan plan_by
    plan-none-from = rw h

    pub plan-none-domain : (plan t ls).domain ≡ t.gateway.domain
    unfolding plan plan_by
    plan-none-domain = rw h

-- ---- the gateway

-- domains whose parts are equal case aside
parts_same : (a b : List ℕ) → fold_tokens (parts_of a) ≡ fold_tokens (parts_of b) → same_text a b ≡ true
parts_same a b e = same_of a b (sym (domain-parts (fold_text a)) ∙ ap domain_of (parts-fold a ∙ e ∙ sym (parts-fold b)) ∙ domain-parts (fold_text b))

pub gateway-fold : (t : Table) (d : List ℕ) → (is_gateway t d ≡ true) ↔ (fold_tokens (parts_of d) ≡ (token_table t).g)
unfolding is_gateway
gateway-fold t d = (λ h. fold-parts t.gateway.domain d h, λ e. parts_same t.gateway.domain d (sym e))

-- ---- the rules of a table

module _ {A : Type 0} where
  -- a member has what all have
  pub all_mem : (p : A → Bool) (s : List A) {x : A} → all p s ≡ true → Memᴰ x s → p x ≡ true
  unfolding all
  all_mem p [] h m = absurd (Memᴰ.not-nil m)
  all_mem p (y ∷ s) h m =
      ⊎_elim
      (λ e. ap p e ∙ and_left (p y) (all p s) h)
      (λ n. all_mem p s (and_right (p y) (all p s) h) n)
      (Memᴰ.cases_cons m)

  -- members that the test finds the same are equal, where all are distinct
  distinct-one : (same : A → A → Bool) → ((x y : A) → same x y ≡ same y x) → (s : List A) → distinct same s ≡ true
      → (a b : A) → Memᴰ a s → Memᴰ b s → same a b ≡ true → a ≡ b
  unfolding distinct
  distinct-one same swap [] h a b m n e = absurd (Memᴰ.not-nil m)
  distinct-one same swap (x ∷ s) h a b m n e =
      ⊎_elim
      (λ f. ⊎_elim (λ g. f ∙ sym g) (λ k. true_not_false (same a b) e (swap a b ∙ ap (same b) f ∙ other k)) (Memᴰ.cases_cons n))
      (λ k. ⊎_elim
      (λ g. true_not_false (same a b) e (ap (same a) g ∙ other k))
      (λ l. distinct-one same swap s (and_right (all (λ y. not (same y x)) s) (distinct same s) h) a b k l e)
      (Memᴰ.cases_cons n))
      (Memᴰ.cases_cons m)
    where
      other : {y : A} → Memᴰ y s → same y x ≡ false
      other {y} k = not-true (same y x) (all_mem (λ z. not (same z x)) s (and_left (all (λ z. not (same z x)) s) (distinct same s) h) k)

-- a member of a mapped list is mapped from one
map_mem : {A B : Type 0} (f : A → B) (s : List A) {y : B} → Memᴰ y (map f s) → (x : A) × Memᴰ x s × (y ≡ f x)
map_mem f [] m = absurd (Memᴰ.not-nil m)
map_mem f (x ∷ s) m =
    ⊎_elim
    (λ e. (x, Memᴰ.head refl, e))
    (λ n. let p = map_mem f s n in (p.0, Memᴰ.tail p.1, p.2))
    (Memᴰ.cases_cons m)

module _ (fold : Row → tokens.Row) (rows : List Row) where
  -- rows are distinct case aside, so folded ones with one key are equal
  one-fold : (same : Row → Row → Bool) → ((a b : Row) → same a b ≡ same b a) → ((a b : Row) → (fold a).key ≡ (fold b).key → same a b ≡ true)
      → distinct same rows ≡ true → (r s : tokens.Row) → Memᴰ r (map fold rows) → Memᴰ s (map fold rows) → r.key ≡ s.key → r ≡ s
  one-fold same swap close h r s m n e =
      let a = map_mem fold rows m in
      let b = map_mem fold rows n in
      let k : (fold a.0).key ≡ (fold b.0).key = ap (λ (x : tokens.Row). x.key) (sym a.2) ∙ e ∙ ap (λ (x : tokens.Row). x.key) b.2 in
      a.2 ∙ ap fold (distinct-one same swap rows h a.0 b.0 a.1 b.1 (close a.0 b.0 k)) ∙ sym b.2

  -- what each row has after folding
  each-fold : (P : tokens.Row → Type 0) → all (is_row longest_row_domain) rows ≡ true → ((a : Row) → is_row longest_row_domain a ≡ true → P (fold a))
      → (r : tokens.Row) → Memᴰ r (map fold rows) → P r
  each-fold P h f r m =
      let a = map_mem fold rows m in
      rw a.2 (f a.0 (all_mem (is_row longest_row_domain) rows h a.1))

domain_swap : (a b : Row) → same_domain a b ≡ same_domain b a
unfolding same_domain
domain_swap a b = same_sym a.domain b.domain

path_swap : (a b : Row) → same_path a b ≡ same_path b a
unfolding same_path
path_swap a b = agree_sym same_text same_sym a.path b.path

domain_close : (a b : Row) → (path_row a).key ≡ (path_row b).key → same_domain a b ≡ true
unfolding same_domain
domain_close a b e = parts_same a.domain b.domain e

path_close : (a b : Row) → (domain_row a).key ≡ (domain_row b).key → same_path a b ≡ true
unfolding same_path
path_close a b e = agree-fold a.path b.path e

-- ---- paths

pub same_fold : (s : List ℕ) → same_text (fold_text s) s ≡ true
same_fold s = same_of (fold_text s) s (fold_twice s)

-- a field is one in either case
field_fold : (k : ℕ) (s : Token) → is_field k (fold_text s) ≡ is_field k s
unfolding is_field is_level
field_fold k s = rw (rule-fold k s, unit_same (fold_text s) s (same_fold s), some_same (fold_text s) s (same_fold s))

pub fields-fold : (k : ℕ) (ts : List Token) → are_fields k (fold_tokens ts) ≡ are_fields k ts
unfolding are_fields
fields-fold k [] = refl
fields-fold k (t ∷ ts) = rw (field_fold k t, fields-fold (suc k) ts)

-- behind PRMD no field is empty
pub fields-full : (k n : ℕ) (ts : List Token) → 3 ≤ k + n → are_fields k ts ≡ true → all non_empty (drop n ts) ≡ true
unfolding are_fields all
fields-full k zero [] l h = refl
fields-full k zero (t ∷ ts) l h =
    and_both
    (field_there k t (ne_eqb k 2 (λ e. omega arith)) (and_left (is_field k t) (are_fields (suc k) ts) h))
    (fields-full (suc k) zero ts (omega arith) (and_right (is_field k t) (are_fields (suc k) ts) h))
fields-full k (suc n) [] l h = refl
fields-full k (suc n) (t ∷ ts) l h = fields-full (suc k) n ts (omega arith) (and_right (is_field k t) (are_fields (suc k) ts) h)

-- the parts of a domain, the other way round
pub parts_all : (s q : List Token) → all is_domain_part s ≡ true → all is_domain_part q ≡ true → all is_domain_part (reverse_aux s q) ≡ true
unfolding all
parts_all [] q f g = g
parts_all (x ∷ s) q f g =
    parts_all s (x ∷ q) (and_right (is_domain_part x) (all is_domain_part s) f) (and_both (and_left (is_domain_part x) (all is_domain_part s) f) g)

-- a row's path has two to eight fields
module _ (r : Row) (h : is_row longest_row_domain r ≡ true) where
  row-domain : is_domain r.domain ≡ true
  unfolding is_row
  row-domain = (and-three (leb (length r.domain) longest_row_domain) (is_domain r.domain) (is_path r.path) h).1

  pub row-path : (leb 2 (length r.path) ≡ true) × (leb (length r.path) 8 ≡ true) × (are_fields 0 r.path ≡ true)
  unfolding is_row is_path
  row-path =
      and-three (leb 2 (length r.path)) (leb (length r.path) 8) (are_fields 0 r.path)
      (and-three (leb (length r.domain) longest_row_domain) (is_domain r.domain) (is_path r.path) h).2

  pub row-fields : are_fields 0 r.path ≡ true
  row-fields = row-path.2

  row-eight : length r.path ≤ 8
  row-eight = leb-true (length r.path) 8 row-path.1

  path-fold : IsPath (fold_tokens r.path)
  path-fold =
      let n = length-map r.path fold_text in
      record {
        two = omega (arith, n, leb-true 2 (length r.path) row-path.0);
        eight = omega (arith, n, row-eight);
        full = fields-full 0 3 (fold_tokens r.path) (omega arith) (fields-fold 0 r.path ∙ row-fields);
      }

  -- its domain is of domain parts
  parts-fold-all : all is_domain_part (fold_tokens (parts_of r.domain)) ≡ true
  unfolding is_domain parts_of all
  parts-fold-all =
      all_map is_domain_part fold_text (parts_of r.domain)
      ∙ all_ext (λ s. is_domain_part (fold_text s)) is_domain_part domain-part-fold (parts_of r.domain)
      ∙ parts_all (split 46 r.domain) [] row-domain refl

-- ---- the whole

module _ (t : Table) (f : table.Formed t) where
  pub formed-fold : tokens.WellKept (token_table t)
  formed-fold =
      record {
        one_d = one-fold path_row t.to_path same_domain domain_swap domain_close f.each_domain;
        one_r = one-fold domain_row t.to_domain same_path path_swap path_close f.each_path;
        path_d = each-fold path_row t.to_path (λ r. IsPath r.val) f.paths path-fold;
        path_r = each-fold domain_row t.to_domain (λ r. IsPath r.key) f.domains path-fold;
        parts = each-fold domain_row t.to_domain (λ r. all is_domain_part r.val ≡ true) f.domains parts-fold-all;
      }

  -- the rows are as few as before
  pub few-fold : length (token_table t).D + length (token_table t).R ≤ most_rows
  few-fold = omega (arith, f.few, length-map t.to_path path_row, length-map t.to_domain domain_row)

  -- the tokens of an R row's path are fields still
  pub path-fields : (r : tokens.Row) → Memᴰ r (token_table t).R → are_fields 0 r.key ≡ true
  path-fields = each-fold domain_row t.to_domain (λ r. are_fields 0 r.key ≡ true) f.domains (λ r h. fields-fold 0 r.path ∙ row-fields r h)

  -- the path of a D row has fields, eight at most: what adding levels to a record asks of them
  pub settled-length : (r : Row) → Memᴰ r t.to_path → (are_fields 0 r.path ≡ true) × (length r.path ≤ 8)
  settled-length r m = let h = all_mem (is_row longest_row_domain) t.to_path f.paths m in (row-fields r h, row-eight r h)
