-- The acceptance theorem of the table check at the level of tokens: if the candidates of a table come back, all levels do; and if all
-- levels do, the candidates do. An R row's domain resolves to exactly its path (good), and with an extension to the path and the
-- extension (own), by the row that resolves the domain or by a row that lies under it (again).
-- Assumes nothing.
use mathlib.Core.Path.{◌≡◌, refl, sym, ap, subst, ◌∙◌}
use mathlib.Core.Logic.{inl, inr}
use mathlib.Core.Bool.{Bool, true, false, ◌&&◌, and_assoc}
use mathlib.Core.List.{List, [], ◌∷◌, ◌++◌, Memᴰ, append_assoc, append-nil, append_cancel_right}
use mathlib.Core.Option.{Option, none, some, some-injective}
use Prim.Native.Nat.{ℕ, zero, suc, ◌+◌, ◌-◌, ◌≤◌, ◌<◌, suc-le-suc, zero-le}
use native.Mathlib.Nat.{add-zero}
use native.Mathlib.Omega.{arith}
use borrow.Author.Tests.{leb-true, leb-false}
use lib.Dec.{leb}
use lib.ListN.{length, drop, get_or, length-append, length-drop, replicate, length-replicate}
use lib.Seq.{append_snoc, drop-append-le, drop-drop, drop-length, drop-append_seam, get_or-append-add, get_or_at, get_or-drop}
use Rattle.chars.specs.Lists.{all, non_empty}
use Rattle.chars.specs.Case.{equal_text}
use Rattle.chars.specs.Domain.{is_domain_part}
use Rattle.chars.proofs.Laws.Lists.{all_append, all-at, all_drop, all_weaken, and_both, and_left, and_right, by_test, true_not_false}
use Rattle.chars.proofs.Laws.Seq.{absent_is, some-length}
use Rattle.chars.proofs.Laws.Domain.{domain-empty, domain-part-length}
use Rattle.soundness.specs.Tokens.{Agree, Back, BackBy, Checked, Comes, WellKept, Fresh, Levels, Row, Supply, Table, Target, Tok, Tried}
use Rattle.soundness.specs.Tokens.{begins, fits_from, key_of, look, pad, resolve, val_of}
use Rattle.soundness.proofs.Laws.Agree.{agree_own, exact, exact_two, full-append, there-at}
use Rattle.table_lookup.specs.Lookup.{extension}
use Rattle.table_lookup.proofs.Laws.Begins.{begins-append, begins-length, begins-less, begins-more, narrow, resolved}
use Rattle.table_lookup.proofs.Laws.Lookup.{extension-front, extension-parts}
use Rattle.soundness.proofs.Laws.Look.{Answer, Best, begins_cut, best_found, best_settles, cut, equal_equality, found, short, unpad}

-- ---- what goes in front of a row's domain

part-full : (t : Tok) → is_domain_part t ≡ true → non_empty t ≡ true
part-full t h = some-length t (domain-part-length t h).0

parts-full : (x : List Tok) → all is_domain_part x ≡ true → all non_empty x ≡ true
parts-full x h = all_weaken is_domain_part non_empty part-full x h

extension_stop : (t : Tok) (l : List Tok) → is_domain_part t ≡ false → extension (t ∷ l) ≡ []
unfolding extension
extension_stop t l h = rw h

-- domain parts, and absent levels behind them
extension-pad : (x : List Tok) (n : ℕ) → all is_domain_part x ≡ true → extension (x ++ replicate n []) ≡ x
unfolding extension all
extension-pad [] zero h = refl
extension-pad [] (suc n) h = extension_stop [] (replicate n []) (domain-empty [] refl)
extension-pad (t ∷ x) n h =
    rw (and_left (is_domain_part t) (all is_domain_part x) h)
    (ap (λ (s : List Tok). t ∷ s) (extension-pad x n (and_right (is_domain_part t) (all is_domain_part x) h)))

-- ---- the bounds of the levels

module _ (fits : ℕ → Tok → Bool) where
  fits-append : (k : ℕ) (s t : List Tok) → fits_from fits k (s ++ t) ≡ (fits_from fits k s && fits_from fits (k + length s) t)
  unfolding fits_from
  fits-append k [] t = rw (add-zero k)
  fits-append k (a ∷ s) t =
      let e : suc k + length s ≡ k + suc (length s) = omega arith in
      rw (fits-append (suc k) s t, e, and_assoc)

  fits-absent : ((k : ℕ) → fits k [] ≡ true) → (k n : ℕ) → fits_from fits k (replicate n []) ≡ true
  unfolding fits_from
  fits-absent h k zero = refl
  fits-absent h k (suc n) = and_both (h k) (fits-absent h (suc k) n)

  -- the levels of a path, the others absent
  levels-pad : ((k : ℕ) → fits k [] ≡ true) → (y : List Tok) → length y ≤ 8 → fits_from fits 0 y ≡ true → Levels fits (pad y)
  unfolding pad
  levels-pad h y l f =
      record {
        eight = omega (arith, length-append y (replicate {A = Tok} (8 - length y) []), length-replicate {A = Tok} (8 - length y) []);
        within = fits-append 0 y (replicate (8 - length y) []) ∙ and_both f (fits-absent h (0 + length y) (8 - length y));
      }

-- ---- the row that levels go out under

module _ (T : Table) where
  -- a row is best for its path
  best_self : (r : Row) → Memᴰ r T.R → Best T.R r.key r
  best_self r m =
      record {
        mem = m;
        fits = subst (λ (s : List Tok). begins r.key s ≡ true) (append-nil r.key) (begins-append equal_equality r.key []);
        most = λ s n h. begins-length equal_text s.key r.key h;
      }

  -- and with a fresh token behind
  best_fresh : (r : Row) → Memᴰ r T.R → (f : Tok) → Fresh T r f → (t : List Tok) → Best T.R (r.key ++ f ∷ t) r
  best_fresh r m f fresh t =
      record {
        mem = m;
        fits = begins-append equal_equality r.key (f ∷ t);
        most = λ s n h. short s.key r.key f t h (fresh.new_r s n);
      }

-- ---- a formed table

module _ (T : Table) (formed : WellKept T) where
  -- what a domain of no empty part resolves to
  settled-full : (q S : List Tok) → all non_empty q ≡ true → resolve T q ≡ some S → (2 ≤ length S) × (all non_empty (drop 3 S) ≡ true)
  settled-full q S h e =
      let w = resolved equal_text key_of val_of T.D q S e in
      let b = w.0 in
      let path = formed.path_d b w.1.mem in (
        omega (arith, path.two, length-append b.val (drop (length b.key) q), ap length w.2),
        subst (λ (s : List Tok). all non_empty (drop 3 s) ≡ true) w.2 (full-append 3 b.val (drop (length b.key) q) path.full (all_drop non_empty (length b.key) q h)),
      )

  -- levels that a row is best for, and what goes in front of its domain
  comes : (r : Row) (L t x : List Tok) → L ≡ r.key ++ t → extension t ≡ x → Best T.R L r → Back T L → Comes T r x L
  comes r L t x e h best back =
      subst (λ (s : List Tok). Comes T r s L) (ap (λ (l : List Tok). extension (drop (length r.key) l)) e ∙ ap extension (drop-append_seam r.key t) ∙ h)
      (subst (BackBy T L) (best_found T.R formed.one_r L r best) back)

  -- what a row is best for, of three levels or more, it is best for with absent levels behind
  best_pad : (r : Row) (y : List Tok) → 3 ≤ length y → Best T.R y r → Best T.R (pad y) r
  unfolding pad
  best_pad r y l best =
      let e = replicate (8 - length y) [] in
      record {
        mem = best.mem;
        fits = begins-more equal_text r.key y e best.fits;
        most = λ s m h. best.most s m (begins-less equal_text s.key y e h (unpad 3 s.key y (8 - length y) (formed.path_r s m).full l h));
      }

-- x can stand in front of the domain of the row r: r is best for its path with x behind, and x are domain parts, at most up to the
-- eighth level and within the bounds of their levels
pub record Under (fits : ℕ → Tok → Bool) (T : Table) (r : Row) (x : List Tok) : Type 0 where
  pub best : Best T.R (r.key ++ x) r
  pub parts : all is_domain_part x ≡ true
  pub room : length r.key + length x ≤ 8
  pub within : fits_from fits (length r.key) x ≡ true

-- then so can a front of x
under-front : (fits : ℕ → Tok → Bool) (T : Table) (r : Row) (z y : List Tok) → Under fits T r (z ++ y) → Under fits T r z
under-front fits T r z y u =
    let k : ℕ = length r.key in
    record {
      best = narrow (r.key ++ z) y (subst (λ (s : List Tok). Best T.R s r) (sym (append_assoc r.key z y)) u.best) (omega (arith, length-append r.key z));
      parts = and_left (all is_domain_part z) (all is_domain_part y) (sym (all_append is_domain_part z y) ∙ u.parts);
      room = omega (arith, u.room, length-append z y);
      within = and_left (fits_from fits k z) (fits_from fits (k + length z) y) (sym (fits-append fits k z y) ∙ u.within);
    }

-- levels that a row is best for have such an x
pub under-levels : (fits : ℕ → Tok → Bool) (T : Table) (r : Row) (L : List Tok) → Levels fits L → Best T.R L r → Under fits T r (extension (drop (length r.key) L))
under-levels fits T r L levels best =
    let k : ℕ = length r.key in
    let rest : List Tok = drop k L in
    let x : List Tok = extension rest in
    let y : List Tok = drop (length x) rest in
    let e : r.key ++ (x ++ y) ≡ L = ap (λ (s : List Tok). r.key ++ s) (extension-front rest) ∙ begins_cut r.key L best.fits in
    let all-within : (fits_from fits 0 r.key && fits_from fits (0 + k) (x ++ y)) ≡ true =
    sym (fits-append fits 0 r.key (x ++ y)) ∙ ap (fits_from fits 0) e ∙ levels.within in
    let z : 0 + k ≡ k = omega arith in
    let front-within : (fits_from fits k x && fits_from fits (k + length x) y) ≡ true =
    sym (fits-append fits k x y)
    ∙ ap (λ (n : ℕ). fits_from fits n (x ++ y)) (sym z)
    ∙ and_right (fits_from fits 0 r.key) (fits_from fits (0 + k) (x ++ y)) all-within in
    record {
      best = narrow (r.key ++ x) y (subst (λ (s : List Tok). Best T.R s r) (sym (append_assoc r.key x y ∙ e)) best) (omega (arith, length-append r.key x));
      parts = extension-parts rest;
      room = omega (arith, levels.eight, ap length e, length-append r.key (x ++ y), length-append x y);
      within = and_left (fits_from fits k x) (fits_from fits (k + length x) y) front-within;
    }

-- Of every R row and every extension x that levels under that row can have, the domain with x in front is not the gateway's, and it resolves
-- to the row's path followed by x. (It speaks of the gateway only where it says that the domain is another one.)
abbrev pub Owned : (ℕ → Tok → Bool) → Table → Type 0
Owned fits T = (r : Row) (x : List Tok) → Under fits T r x → (r.val ++ x ≡ T.g → ⊥) × (resolve T (r.val ++ x) ≡ some (r.key ++ x))

-- then all levels come back
pub owned_back : (fits : ℕ → Tok → Bool) (T : Table) → WellKept T → Owned fits T → (L : List Tok) → Levels fits L → Back T L
owned_back fits T formed owned L levels = case (look T.R L) (found T.R L)
  where
    case : (o : Option Row) → Answer T.R L o → BackBy T L o
    case none f = tt
    case (some r) best =
        let rest : List Tok = drop (length r.key) L in
        let x : List Tok = extension rest in
        let y : List Tok = drop (length x) rest in
        let back = owned r x (under-levels fits T r L levels best) in
        let whole : r.key ++ x ++ y ≡ L =
        append_assoc r.key x y ∙ ap (λ (s : List Tok). r.key ++ s) (extension-front rest) ∙ begins_cut r.key L best.fits in
        let full : all non_empty (drop 4 r.key) ≡ true =
        ap (all non_empty) (sym (drop-drop 1 3 r.key)) ∙ all_drop non_empty 1 (drop 3 r.key) (formed.path_r r best.mem).full in
        record {
          away = back.0;
          by = r.key ++ x;
          settles = back.1;
          agrees = subst (Agree 4 (r.key ++ x) (length (r.key ++ x))) whole (agree_own 4 (r.key ++ x) y (full-append 4 r.key x full (parts-full x (extension-parts rest))));
        }

-- what comes back with nothing in front of the row's domain
alone : (T : Table) (r : Row) (L : List Tok) → Comes T r [] L
    → (r.val ≡ T.g → ⊥) × ((S : List Tok) × (resolve T r.val ≡ some S) × Agree 4 S (length r.key) L)
alone T r L c = (
  λ e. c.away (append-nil r.val ∙ e),
  (c.by, ap (resolve T) (sym (append-nil r.val)) ∙ c.settles, subst (λ (n : ℕ). Agree 4 c.by n L) (ap length (append-nil r.key)) c.agrees),
)

-- ---- a checked table

-- a row's domain is not the gateway's and resolves to exactly its path
abbrev pub Good : Table → Row → Type 0
Good T r = (r.val ≡ T.g → ⊥) × (resolve T r.val ≡ some r.key)

module _ (fits : ℕ → Tok → Bool) (T : Table) (formed : WellKept T) (checked : Checked fits T) where
  module _ (r : Row) (m : Memᴰ r T.R) where
    plain_comes : 3 ≤ length r.key → Comes T r [] (pad r.key)
    unfolding pad all
    plain_comes l =
        let n : ℕ = 8 - length r.key in
        comes T formed r (pad r.key) (replicate n []) [] refl (extension-pad [] n refl) (best_pad T formed r r.key l (best_self T r m)) (checked.plain r m l)

    -- a level from PRMD on is there
    good-plain : 3 ≤ length r.key → (k : ℕ) → 2 ≤ k → non_empty (get_or r.key k []) ≡ true → Good T r
    good-plain l k h e =
        let a = alone T r (pad r.key) (plain_comes l) in
        let f = settled-full T formed r.val a.1.0 (parts-full r.val (formed.parts r m)) a.1.1 in
        (a.0, a.1.1 ∙ ap some (exact a.1.0 r.key f.1 (formed.path_r r m).full (there-at r.key k 2 e h) a.1.2))

    -- a candidate with a fresh token behind the path
    behind : Tok → ℕ
    behind f = 8 - length (r.key ++ f ∷ [])

    tried_levels : (f : Tok) → pad (r.key ++ f ∷ []) ≡ r.key ++ f ∷ replicate (behind f) []
    unfolding pad behind
    tried_levels f = append_snoc r.key f (replicate (behind f) [])

    tried_comes : (t : Bool) (w : Tried T r t) (x : List Tok) → extension (w.f ∷ replicate (behind w.f) []) ≡ x → Comes T r x (pad (r.key ++ w.f ∷ []))
    tried_comes t w x h =
        comes T formed r (pad (r.key ++ w.f ∷ [])) (w.f ∷ replicate (behind w.f) []) x (tried_levels w.f) h
        (subst (λ (L : List Tok). Best T.R L r) (sym (tried_levels w.f)) (best_fresh T r m w.f w.fresh (replicate (behind w.f) [])))
        w.back

    good-two : length r.key ≡ 2 → Good T r
    good-two l =
        let w = checked.two r m l in
        let t : List Tok = replicate (behind w.f) [] in
        let a = alone T r (pad (r.key ++ w.f ∷ [])) (tried_comes false w [] (extension_stop w.f t w.part)) in
        let f = settled-full T formed r.val a.1.0 (parts-full r.val (formed.parts r m)) a.1.1 in
        let g : Agree 4 a.1.0 (length r.key) (r.key ++ w.f ∷ t) = subst (Agree 4 a.1.0 (length r.key)) (tried_levels w.f) a.1.2 in
        (a.0, a.1.1 ∙ ap some (exact_two a.1.0 r.key w.f t l f.0 w.fresh.there g))

    good-bare : length r.key ≡ 3 → get_or r.key 2 [] ≡ [] → Good T r
    unfolding all
    good-bare l e =
        let w = checked.bare r m l e in
        let d : List Tok = w.f ∷ [] in
        let part : all is_domain_part d ≡ true = and_both w.part refl in
        let c = tried_comes true w d (extension-pad d (behind w.f) part) in
        let q : all non_empty (r.val ++ d) ≡ true = all_append non_empty r.val d ∙ and_both (parts-full r.val (formed.parts r m)) (parts-full d part) in
        let b = resolved equal_text key_of val_of T.D (r.val ++ d) c.by c.settles in
        let key : List Tok = b.0.key in
        let near : length key ≤ length r.val = short key r.val w.f [] b.1.fits (w.fresh.new_d b.0 b.1.mem) in
        let own = best_settles T.D formed.one_d r.val b.0 (narrow r.val d b.1 near) in
        let full : all non_empty (drop 3 (r.key ++ d)) ≡ true = full-append 3 r.key d (formed.path_r r m).full (parts-full d part) in
        let there : non_empty (get_or (r.key ++ d) 3 []) ≡ true = ap non_empty (get_or_at r.key w.f [] [] 3 l) ∙ part-full w.f w.part in
        let is : c.by ≡ r.key ++ d =
        exact c.by (r.key ++ d) (settled-full T formed (r.val ++ d) c.by q c.settles).1 full (there-at (r.key ++ d) 3 2 there (omega arith)) c.agrees in
        let split : b.0.val ++ drop (length key) r.val ++ d ≡ r.key ++ d =
        append_assoc b.0.val (drop (length key) r.val) d
        ∙ ap (λ (s : List Tok). b.0.val ++ s) (sym (drop-append-le (length key) r.val d near))
        ∙ b.2
        ∙ is in
        ((alone T r (pad r.key) (plain_comes (omega arith))).0, own ∙ ap some (append_cancel_right (b.0.val ++ drop (length key) r.val) r.key d split))

    pub good : Good T r
    good =
        by_test (leb 3 (length r.key))
        (λ three. let l : 3 ≤ length r.key = leb-true 3 (length r.key) three in
        by_test (non_empty (get_or r.key 2 []))
        (λ e. good-plain l 2 (omega arith) e)
        (λ e. by_test (leb 4 (length r.key))
        (λ four. let h : 4 ≤ length r.key = leb-true 4 (length r.key) four in
        good-plain l 3 (omega arith) (sym (ap non_empty (get_or-drop 3 r.key 0 [])) ∙ all-at non_empty (drop 3 r.key) 0 [] (formed.path_r r m).full (omega (arith, length-drop 3 r.key))))
        (λ four. good-bare (omega (arith, leb-false 4 (length r.key) four)) (absent_is (get_or r.key 2 []) e))))
        (λ three. good-two (omega (arith, leb-false 3 (length r.key) three, (formed.path_r r m).two)))

  -- where the gateway's domain or a D row's lies under a row's, the levels that go out there come back
  again : (r : Row) (z : List Tok) → Under fits T r z → 1 ≤ length z → Target T (r.val ++ z) → Comes T r z (pad (r.key ++ z))
  unfolding pad
  again r z u l target =
      let n : ℕ = 8 - length (r.key ++ z) in
      let path = formed.path_r r u.best.mem in
      let three : 3 ≤ length (r.key ++ z) = omega (arith, path.two, length-append r.key z) in
      comes T formed r (pad (r.key ++ z)) (z ++ replicate n []) z (append_assoc r.key z (replicate n [])) (extension-pad z n u.parts)
      (best_pad T formed r (r.key ++ z) three u.best)
      (checked.second r u.best.mem z target l u.room u.within)

  own_away : (r : Row) (x : List Tok) → Under fits T r x → r.val ++ x ≡ T.g → ⊥
  own_away r [] u e = (good r u.best.mem).0 (sym (append-nil r.val) ∙ e)
  own_away r (a ∷ x) u e = (again r (a ∷ x) u (suc-le-suc zero-le) (inl e)).away e

  -- a D row whose domain lies under r's, with the parts z between: its path is r's with z behind
  between : (r : Row) (z : List Tok) → Under fits T r z → 1 ≤ length z → (b : Row) → Best T.D b.key b → r.val ++ z ≡ b.key → b.val ≡ r.key ++ z
  between r z u l b self e =
      let m = u.best.mem in
      let c = again r z u l (inr (b, self.mem, e)) in
      let zs : all non_empty z ≡ true = parts-full z u.parts in
      let q : all non_empty (r.val ++ z) ≡ true = all_append non_empty r.val z ∙ and_both (parts-full r.val (formed.parts r m)) zs in
      let there : non_empty (get_or (r.key ++ z) (length r.key + 0) []) ≡ true = ap non_empty (get_or-append-add r.key z 0 []) ∙ all-at non_empty z 0 [] zs l in
      let is : c.by ≡ r.key ++ z =
      exact c.by (r.key ++ z) (settled-full T formed (r.val ++ z) c.by q c.settles).1 (full-append 3 r.key z (formed.path_r r m).full zs)
      (there-at (r.key ++ z) (length r.key + 0) 2 there (omega (arith, (formed.path_r r m).two))) c.agrees in
      let own_key : resolve T b.key ≡ some (b.val ++ drop (length b.key) b.key) = best_settles T.D formed.one_d b.key b self in
      some-injective b.val (r.key ++ z)
      (ap some (sym (append-nil b.val) ∙ ap (λ (s : List Tok). b.val ++ s) (sym (drop-length b.key)))
      ∙ sym own_key
      ∙ ap (resolve T) (sym e)
      ∙ c.settles
      ∙ ap some is)

  module _ (r : Row) (x : List Tok) (u : Under fits T r x) (b : Row) (best : Best T.D (r.val ++ x) b) where
    -- the D row's domain is no longer than r's: it is the row that resolves r's domain
    near : length b.key ≤ length r.val → resolve T (r.val ++ x) ≡ some (r.key ++ x)
    near l =
        let d : List Tok = drop (length b.key) r.val in
        let k : b.val ++ d ≡ r.key =
        some-injective (b.val ++ d) r.key (sym (best_settles T.D formed.one_d r.val b (narrow r.val x best l)) ∙ (good r u.best.mem).1) in
        best_settles T.D formed.one_d (r.val ++ x) b best
        ∙ ap some
        (ap (λ (s : List Tok). b.val ++ s) (drop-append-le (length b.key) r.val x l) ∙ sym (append_assoc b.val d x) ∙ ap (λ (s : List Tok). s ++ x) k)

    -- the D row lies under r's domain
    far : length r.val < length b.key → resolve T (r.val ++ x) ≡ some (r.key ++ x)
    far l =
        let y : List Tok = drop (length b.key) (r.val ++ x) in
        let e : b.key ++ y ≡ r.val ++ x = begins_cut b.key (r.val ++ x) best.fits in
        let w = cut r.val b.key x y (sym e) (omega arith) in
        let self : Best T.D b.key b = narrow b.key y (subst (λ (s : List Tok). Best T.D s b) (sym e) best) (omega arith) in
        let k : b.val ≡ r.key ++ w.0 =
        between r w.0 (under-front fits T r w.0 y (subst (Under fits T r) (sym w.2) u)) (omega (arith, length-append r.val w.0, ap length w.1)) b self w.1 in
        best_settles T.D formed.one_d (r.val ++ x) b best
        ∙ ap some (ap (λ (s : List Tok). s ++ y) k ∙ append_assoc r.key w.0 y ∙ ap (λ (s : List Tok). r.key ++ s) w.2)

  own_resolves : (r : Row) (x : List Tok) → Under fits T r x → resolve T (r.val ++ x) ≡ some (r.key ++ x)
  own_resolves r x u = case (look T.D (r.val ++ x)) (found T.D (r.val ++ x))
    where
      case : (o : Option Row) → Answer T.D (r.val ++ x) o → resolve T (r.val ++ x) ≡ some (r.key ++ x)
      case none f =
          let w = resolved equal_text key_of val_of T.D r.val r.key (good r u.best.mem).1 in
          true_not_false (begins w.0.key (r.val ++ x)) (begins-more equal_text w.0.key r.val x w.1.fits) (f w.0 w.1.mem)
      case (some b) best =
          by_test (leb (length b.key) (length r.val))
          (λ e. near r x u b best (leb-true (length b.key) (length r.val) e))
          (λ e. far r x u b best (leb-false (length b.key) (length r.val) e))

  -- a row's domain with levels in front is not the gateway's, and resolves to the row's path with those levels behind
  pub own : Owned fits T
  own r x u = (own_away r x u, own_resolves r x u)

  -- all levels come back
  pub sound : (L : List Tok) → Levels fits L → Back T L
  sound L levels = owned_back fits T formed own L levels

-- ---- the other way: the candidates are levels, so they come back where all do

pub checked_back : (fits : ℕ → Tok → Bool) (T : Table) → WellKept T → ((L : List Tok) → Levels fits L → Back T L) → Supply fits T → Checked fits T
unfolding fits_from
checked_back fits T formed back supply =
    record {
      plain = λ r m l. back (pad r.key) (levels-pad fits supply.absent r.key (formed.path_r r m).eight (supply.paths r m));
      two = λ r m l. let w = supply.odd r m in
          record { f = w.0; fresh = w.1; part = w.2; back = with_one r m w.0 (rw l w.3) (omega arith) };
      bare = λ r m l e. let w = supply.part r m in
          record { f = w.0; fresh = w.1; part = w.2; back = with_one r m w.0 (rw l w.3) (omega arith) };
      second = λ r m z t l room h. behind-path r m z room h;
    }
  where
    behind-path : (r : Row) → Memᴰ r T.R → (z : List Tok) → length r.key + length z ≤ 8 → fits_from fits (length r.key) z ≡ true → Back T (pad (r.key ++ z))
    behind-path r m z room h =
        let e : 0 + length r.key ≡ length r.key = omega arith in
        back (pad (r.key ++ z))
        (levels-pad fits supply.absent (r.key ++ z) (omega (arith, length-append r.key z))
        (fits-append fits 0 r.key z ∙ and_both (supply.paths r m) (ap (λ (n : ℕ). fits_from fits n z) e ∙ h)))

    with_one : (r : Row) → Memᴰ r T.R → (f : Tok) → fits (length r.key) f ≡ true → length r.key < 8 → Back T (pad (r.key ++ f ∷ []))
    with_one r m f h l = behind-path r m (f ∷ []) (omega arith) (and_both h refl)

-- A table is accepted exactly when its rows' domains are owned so: what the check finds out, without its candidates.
pub accepted_exactly : (fits : ℕ → Tok → Bool) (T : Table) → WellKept T → Supply fits T → (Checked fits T → Owned fits T) × (Owned fits T → Checked fits T)
accepted_exactly fits T formed supply = (λ c. own fits T formed c, λ o. checked_back fits T formed (owned_back fits T formed o) supply)
