-- A record that comes back has levels that come back: what the check learns of a candidate.
-- Assumes nothing.
use mathlib.Core.Path.{◌≡◌, refl, sym, ap, subst, ◌∙◌}
use mathlib.Core.Bool.{true, false, ◌&&◌}
use mathlib.Core.List.{List, [], ◌∷◌, ◌++◌}
use mathlib.Core.Option.{Option, none, some, map}
use Prim.Native.Nat.{ℕ, zero, suc, ◌≤◌}
use native.Mathlib.Omega.{arith}
use borrow.Author.Tests.{eqb-true, leb-true, ltb-false}
use lib.Dec.{eqb, ltb}
use lib.ListN.{length, length-append, length-map, drop, get_or}
use Rattle.chars.specs.Lists.{all, non_empty}
use Rattle.chars.specs.Case.{fold_text, same_text}
use Rattle.chars.specs.Domain.{is_domain_part}
use Rattle.chars.specs.Parts.{split}
use Rattle.chars.proofs.Laws.Domain.{domain-part-length}
use Rattle.chars.proofs.Laws.Seq.{some-length}
use Rattle.chars.proofs.Laws.Lists.{all_append, all_drop, all_weaken, and_both, and_left, and_right, by_test, true_not_false}
use Rattle.oraddr.specs.Add.{Outcome}
use Rattle.oraddr.specs.Attributes.{levels}
use Rattle.oraddr.specs.Bounds.{ADMD, single_count}
use Rattle.oraddr.specs.Canonical.{canonical_record}
use Rattle.oraddr.specs.Same.{same_attributes, same_record}
use Rattle.oraddr.specs.View.{empty_record, view}
use Rattle.oraddr.specs.declared.record.Record.{Record}
use Rattle.oraddr.proofs.Laws.Canonical.{canonical-view}
use Rattle.ortext_read.specs.Apply.{read, read_local}
use Rattle.ortext_segments.specs.Keys.{keys}
use Rattle.ortext_write.specs.Write.{local_text, remaining}
use Rattle.mailaddr.specs.Code.{coded}
use Rattle.mailaddr.specs.Domain.{is_domain, parts_of}
use Rattle.table.specs.Table.{Row, Table, Token}
use Rattle.table.specs.Formed.{Formed}
use Rattle.table_lookup.specs.Lookup.{by_domain, by_path, extension, look, resolve}
use Rattle.table_settle.specs.Settle.{Settling, add_levels, begun, no_row, past_bound, past_units, settled}
use Rattle.table.specs.Lines.{is_row, longest_row_domain}
use Rattle.table_lookup.proofs.Laws.Begins.{BestBy, resolved}
use Rattle.table_lookup.proofs.Laws.Lookup.{Answer, found}
use Rattle.table_settle.proofs.Laws.Settled.{LevelsMade, levels-kept}
use Rattle.mapping.specs.Answers.{is_good}
use Rattle.mapping.specs.Carried.{carrier_of, carrying, is_gateway, longest_coded, read_over, settled_under}
use Rattle.mapping.specs.Results.{mapped, refused_record}
use Rattle.mapping.specs.ToAddress.{is_carrier, plan}
use Rattle.mapping.specs.ToRecord.{record_in, to_record}
use Rattle.mapping.specs.Whole.{SettledBy, at_gateway, by_row}
use Rattle.mapping.proofs.Laws.CarriedBack.{carrier_is}
use Rattle.mapping.proofs.Laws.Route.{address-planned}
use Rattle.mapping.proofs.Laws.Sent.{plan-domain, sent_record, sent_shaped, sent_address, sent_reading, sent_text}
use Rattle.mapping.proofs.Laws.Whole.{by-domain, good-read}
use Rattle.soundness.specs.Folded.{domain_row, fold_tokens, token_table}
use Rattle.soundness.specs.Sound.{back_by, comes_back, text_of}
use Rattle.soundness.specs.Tokens.{Agree, Back, BackBy, Comes}
use Rattle.soundness.specs.Tokens as tokens
use Rattle.soundness.proofs.Laws.Folded.{all_mem, fields-full, gateway-fold, look-path-fold, plan-from-fold, parts_all, plan-parts-fold, resolve-fold, row-path}
use Rattle.soundness.proofs.Laws.Reading.{admd-there, gateway-lost, same-agree}
use Rattle.soundness.proofs.Laws.SameCarrier.{same_carrier}

module _ (t : Table) (f : Formed t) (r : Record) (h : canonical_record r ≡ true) (n : is_carrier t (view r) ≡ false) where
  -- the text that it goes out as
  pub text_is : text_of t r ≡ some (sent_text t r)
  unfolding text_of
  text_is = rw h (address-planned t (view r) n)

  module _ (c : comes_back t r ≡ true) where
    came_test : (eqb (to_record t (sent_text t r)).number 0 && same_record (to_record t (sent_text t r)).record' r) ≡ true
    unfolding comes_back back_by
    came_test = rw text_is at c

    came_done : (to_record t (sent_text t r)).number ≡ 0
    came_done =
        eqb-true (to_record t (sent_text t r)).number 0
        (and_left (eqb (to_record t (sent_text t r)).number 0) (same_record (to_record t (sent_text t r)).record' r) came_test)

    came_same : same_record (to_record t (sent_text t r)).record' r ≡ true
    came_same = and_right (eqb (to_record t (sent_text t r)).number 0) (same_record (to_record t (sent_text t r)).record' r) came_test

    -- it did not come back as a carrier
    not_carried : is_good (sent_reading t r) ≡ false → ⊥
    unfolding carrying refused_record mapped same_record
    not_carried g =
        let s = sent_text t r in
        let path = t.gateway.path in
        let o : to_record t s ≡ carrying path s = sent_record t f r h ∙ rw g in
        by_test (ltb longest_coded (length (coded s)))
        (λ e. omega (arith, rw (o, e) at came_done))
        (λ e. let same : same_record (carrier_of path s) r ≡ true = rw (o, e) at came_same in
        true_not_false (is_carrier t (view r))
        (same_carrier (view (carrier_of path s)) (view r) same t (carrier_is t f s (sent_address t r) (sent_shaped t f r h) (ltb-false longest_coded (length (coded s)) e)))
        n)

    came_good : is_good (sent_reading t r) ≡ true
    came_good = by_test (is_good (sent_reading t r)) (λ e. e) (λ e. absurd (not_carried e))

    came_read : sent_reading t r ≡ read (record_in (sent_reading t r))
    came_read = good-read (sent_reading t r) came_good

    read_same : same_attributes (view (record_in (sent_reading t r))) (view r) ≡ true
    unfolding same_record mapped
    read_same =
        let o : to_record t (sent_text t r) ≡ mapped (record_in (sent_reading t r)) = sent_record t f r h ∙ rw came_good in
        rw o at came_same

-- ---- what a domain settles

-- behind the fourth of two lists, one after the other
all-behind : (k : ℕ) (ps qs : List Token) → all non_empty (drop k ps) ≡ true → all non_empty qs ≡ true → all non_empty (drop k (ps ++ qs)) ≡ true
all-behind zero ps qs g h = all_append non_empty ps qs ∙ and_both g h
all-behind (suc k) [] qs g h = all_drop non_empty (suc k) qs h
all-behind (suc k) (p ∷ ps) qs g h = all-behind k ps qs g h

part-there : (p : List ℕ) → is_domain_part p ≡ true → non_empty p ≡ true
part-there p h = some-length p (domain-part-length p h).0

get_d_front : (ps qs : List Token) → 2 ≤ length ps → get_or (ps ++ qs) ADMD [] ≡ get_or ps ADMD []
get_d_front [] qs l = absurd (omega arith)
get_d_front (a ∷ []) qs l = absurd (omega arith)
get_d_front (a ∷ b ∷ ps) qs l = refl

module _ (t : Table) (f : Formed t) (d : List ℕ) (i : is_domain d ≡ true) where
  -- all its parts are there
  parts-there : all non_empty (parts_of d) ≡ true
  unfolding is_domain parts_of
  parts-there = all_weaken is_domain_part non_empty part-there (parts_of d) (parts_all (split 46 d) [] i refl)

  -- by the row that is found: its units and its ADMD are there
  pub resolved_there : (ts : List Token) → resolve t.to_path d ≡ some ts → (all non_empty (drop 4 ts) ≡ true) × (non_empty (get_or ts ADMD []) ≡ true)
  resolved_there ts e =
      let w = resolved same_text by_domain by_path t.to_path (parts_of d) ts e in
      let path = w.0.path in
      let rest = drop (length (parts_of w.0.domain)) (parts_of d) in
      let p = row-path w.0 (all_mem (is_row longest_row_domain) t.to_path f.paths w.1.mem) in
      let two = leb-true 2 (length path) p.0 in (
        rw (sym w.2) (all-behind 4 path rest (fields-full 0 4 path (omega arith) p.2) (all_drop non_empty (length (parts_of w.0.domain)) (parts_of d) parts-there)),
        rw (sym w.2) (ap non_empty (get_d_front path rest two) ∙ admd-there path p.2 two),
      )

-- ---- the levels come back

module _ (t : Table) (f : Formed t) (r : Record) (h : canonical_record r ≡ true) (l : length (view r).single ≡ single_count) (n : is_carrier t (view r) ≡ false) (c : comes_back t r ≡ true) where
  abbrev T : tokens.Table
  T = token_table t

  abbrev L : List Token
  L = levels (view r)

  abbrev d : List ℕ
  d = (plan t L).domain

  abbrev q : Record
  q = record_in (sent_reading t r)

  domain_is : is_domain d ≡ true
  domain_is = plan-domain t f L

  -- under a row that was found
  module _ (b : Row) (e : look by_path t.to_domain L ≡ some b) where
    abbrev x : List tokens.Tok
    x = extension (drop (length (domain_row b).key) (fold_tokens L))

    some-levels : 1 ≤ (plan t L).from
    some-levels =
        let m : BestBy same_text by_path t.to_domain L b = subst (Answer by_path t.to_domain L) e (found by_path t.to_domain L) in
        let p = row-path b (all_mem (is_row longest_row_domain) t.to_domain f.domains m.mem) in
        omega (
          arith,
          leb-true 2 (length b.path) p.0,
          plan-from-fold t L b e,
          length-append (domain_row b).key x,
          length-map b.path fold_text,
        )

    by-settled : (m : ℕ) (r0 : Record) → SettledBy t d m r0 → read_local keys m r0 (local_text keys (remaining (plan t L).from (view r))) ≡ read q
        → Comes T (domain_row b) x (fold_tokens L)
    by-settled m r0 (at_gateway g e0 e1) z =
        true_not_false (same_attributes (view q) (view r)) (read_same t f r h n c)
        (gateway-lost (plan t L).from (view r) q l (canonical-view r h) some-levels (rw (e0, e1) at z))
    by-settled m r0 (by_row ts g res e0 done) z =
        let there = resolved_there t f d domain_is ts res in
        let num : (add_levels 0 ts (begun empty_record)).number ≡ 0 = ap (λ (o : Outcome). o.number) done in
        let rec : (add_levels 0 ts (begun empty_record)).record' ≡ r0 = ap (λ (o : Outcome). o.record') done in
        let made : LevelsMade ts r0 = subst (LevelsMade ts) rec (levels-kept ts there.0 num) in
        let parts = plan-parts-fold t L b e in
        record {
          away = λ same. true_not_false (is_gateway t d) ((gateway-fold t d).1 (parts ∙ same)) g;
          by = fold_tokens ts;
          settles = ap (tokens.resolve T) (sym parts) ∙ sym (resolve-fold t d) ∙ ap (map fold_tokens) res;
          agrees = subst (λ (k : ℕ). Agree 4 (fold_tokens ts) k (fold_tokens L)) (plan-from-fold t L b e)
              (same-agree ts (plan t L).from (view r) r0 q made l (canonical-view r h) there.1 (rw e0 at z) (read_same t f r h n c));
        }

    by-settling : (st : Settling) → settled_under t d ≡ st → read_over st (local_text keys (remaining (plan t L).from (view r))) ≡ read q → Comes T (domain_row b) x (fold_tokens L)
    unfolding read_over
    by-settling no_row e0 z = let y : ◌≡◌ {A = ℕ} 0 1 = cc in absurd (omega arith)
    by-settling past_units e0 z = let y : ◌≡◌ {A = ℕ} 0 1 = cc in absurd (omega arith)
    by-settling past_bound e0 z = let y : ◌≡◌ {A = ℕ} 0 1 = cc in absurd (omega arith)
    by-settling (settled m r0) e0 z = by-settled m r0 (by-domain t d m r0 e0) z

    comes : Comes T (domain_row b) x (fold_tokens L)
    comes = by-settling (settled_under t d) refl (came_read t f r h n c)

  by-look : (o : Option Row) → look by_path t.to_domain L ≡ o → BackBy T (fold_tokens L) (map domain_row o)
  by-look none e = tt
  by-look (some b) e = comes b e

  -- what the check learns of a candidate
  pub came_back : Back (token_table t) (fold_tokens (levels (view r)))
  came_back = subst (BackBy T (fold_tokens L)) (look-path-fold t.to_domain L) (by-look (look by_path t.to_domain L) refl)
