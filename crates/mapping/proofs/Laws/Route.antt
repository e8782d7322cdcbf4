-- Laws of how a record goes out: the route under a row and at the gateway, how long its address is, the address that was written, and that
-- record to address reads only the gateway and the rows to a domain.
-- Assumes nothing.
use mathlib.Core.Path.{◌≡◌, refl, sym, ap, subst, ◌∙◌}
use mathlib.Core.Bool.{true, false, cond}
use mathlib.Core.List.{List, ◌∷◌, ◌++◌}
use mathlib.Core.Option.{Option, none, some}
use Prim.Native.Nat.{ℕ, ◌+◌, ◌≤◌}
use native.Mathlib.Omega.{arith}
use lib.ListN.{length, take, drop, length-append, length-drop}
use lib.Seq.{take-append_seam}
use Rattle.std.specs.Prelude.{Some, None, Err}
use Rattle.chars.specs.Class.{is_quotable}
use Rattle.chars.specs.Parts.{is_atoms}
use Rattle.chars.specs.Write.{Wrote}
use Rattle.chars.proofs.Laws.Lists.{by_test}
use Rattle.chars.proofs.Laws.Write.{wrote-length, wrote_taken}
use Rattle.oraddr.specs.Attributes.{Attributes, levels}
use Rattle.oraddr.specs.Bounds.{level_count}
use Rattle.oraddr.specs.Canonical.{canonical_record}
use Rattle.oraddr.specs.View.{view}
use Rattle.oraddr.specs.declared.record.Record.{Record}
use Rattle.oraddr.proofs.Laws.Canonical.{canonical-view}
use Rattle.ortext_segments.specs.Keys.{keys}
use Rattle.ortext_write.specs.Write.{local_text, longest_text, remaining}
use Rattle.ortext_write.proofs.Laws.Write.{local_bound, local-told, text_class}
use Rattle.mailaddr.specs.Shape.{address_text, quoted_local}
use Rattle.mailaddr.proofs.Laws.Shape.{length-quoted_quotable, quoted-atoms}
use Rattle.table.specs.Table.{Table, Token}
use Rattle.table_lookup.specs.Lookup.{by_path, extension}
use Rattle.table_lookup.specs.Looked.{Looked, found_row, tokens_from, level_tokens}
use Rattle.table.specs.Rows.{RowInside, between, places_at, row_at, table_at}
use Rattle.table.specs.declared.line as line
use Rattle.table.specs.declared.load as load
use Rattle.table.proofs.Laws.Fields.{between-length}
use Rattle.table_lookup.proofs.Laws.Lookup.{extension-front}
use Rattle.mapping.specs.Answers.{Fronted, Routed, address_bad_line, address_number, address_room, outward, routed_text, told_address}
use Rattle.mapping.specs.Flat.{fronts}
use Rattle.mapping.specs.Results.{placed, refused_address}
use Rattle.mapping.specs.ToAddress.{Plan, address_of, carried_address, extended, is_carrier, is_carrier_at, placed_in, plan, plan_by, plan_under, planned, to_address}
use Rattle.mapping.specs.declared.answers.AddressRefusal.TheVariants.{NoAddress, NotCanonical}
use Rattle.mapping.specs.declared.route.Route.{Route}
use Rattle.mapping.proofs.Laws.Flat.{extended-fronts}
use Rattle.mapping.proofs.Laws.Fronts.{some-room}
use Rattle.mapping.proofs.Laws.Sides.{outward-same}

-- ---- the route

pub length-tokens : (s ends : List ℕ) → length (level_tokens s ends) ≡ 8
unfolding level_tokens tokens_from
length-tokens s ends = refl

pub extension-take : (l : List Token) → extension l ≡ take (length (extension l)) l
extension-take l =
    let x : List Token = extension l in
    sym (ap (take (length x)) (sym (extension-front l)) ∙ take-append_seam x (drop (length x) l))

pub extension-fits : (l : List Token) → length (extension l) ≤ length l
extension-fits l = omega (arith, length-append (extension l) (drop (length (extension l)) l), ap length (extension-front l))

-- the levels in front of a domain are no more than there are
pub few_more : (ls : List Token) (own more : ℕ) → length ls ≡ 8 → own ≤ 8 → more ≡ length (extension (drop own ls)) → own + more ≤ 8
few_more ls own more l h f = omega (arith, extension-fits (drop own ls), length-drop own ls)

-- under a row
pub routed_under : (s : List ℕ) (row : line.Row.Row) (ls : List Token) (r : Route) → r.domain.now ≡ between s row.domain row.domain_end
    → r.own ≡ length (row_at s row).path → r.more ≡ length (extension (drop r.own ls)) → Routed ls (plan_under (row_at s row) ls) r
unfolding plan_under row_at
routed_under s row ls r d e f =
    record {
      from = rw (f, e);
      domain = rw (d, f, e) (ap (extended (between s row.domain row.domain_end)) (extension-take (drop (length (row_at s row).path) ls)));
    }

-- by the row that was found, or at the gateway where none was
module _ (s ds rs : List ℕ) (t : load.Loaded.Loaded) (ls : List Token) (r : Route) where
  pub routed_found : (i : ℕ) → Looked by_path s rs t.to_domain ls (Some i)
      → Routed ls (plan_under (row_at s (places_at rs i)) ls) r → Routed ls (plan (table_at s ds rs t) ls) r
  unfolding plan plan_by found_row table_at
  routed_found i h g = rw h.row g

  pub routed_nowhere : Looked by_path s rs t.to_domain ls None → r.domain.now ≡ between s t.gateway.domain t.gateway.domain_end → r.own ≡ 0 → r.more ≡ 0
      → Routed ls (plan (table_at s ds rs t) ls) r
  unfolding plan plan_by found_row extended row_at table_at
  routed_nowhere h d e f = rw h.row (record { from = rw (e, f); domain = rw (d, e, f) })

-- ---- how long its address is

pub length-local : (r : Record) → canonical_record r ≡ true → (n : ℕ) → length (quoted_local (local_text keys (remaining n (view r)))) ≤ longest_text + 2
unfolding is_quotable
length-local r h n =
    let u : List ℕ = local_text keys (remaining n (view r)) in
    let l : length u ≤ longest_text = local_bound (view r) (canonical-view r h) n in
    by_test (is_atoms u)
    (λ e. rw (quoted-atoms u e) (omega arith))
    (λ e. omega (arith, length-quoted_quotable u (text_class (view r) (canonical-view r h) n) e))

pub length-row : (s : List ℕ) (row : line.Row.Row) → RowInside s row → length (between s row.domain row.domain_end) ≤ 253
length-row s row h = omega (arith, between-length s row.domain row.domain_end h.domain h.within-domain, h.short)

-- the local part and the levels that the domain tells
pub length-told : (r : Record) → canonical_record r ≡ true → length (levels (view r)) ≡ level_count → (own more : ℕ) → own + more ≤ level_count
    → length (quoted_local (local_text keys (remaining (own + more) (view r)))) + length (fronts (take more (drop own (levels (view r))))) ≤ longest_text + 2
unfolding is_quotable
length-told r h l own more few =
    let u : List ℕ = local_text keys (remaining (own + more) (view r)) in
    let c = canonical-view r h in
    let f = some-room (view r) c l own more few in
    let t = local-told (view r) c (own + more) few in
    by_test (is_atoms u)
    (λ e. rw (quoted-atoms u e) (omega (arith, f, t)))
    (λ e. omega (arith, f, t, length-quoted_quotable u (text_class (view r) c (own + more)) e))

-- the whole of it: less than the room for any address
pub length_routed : (r : Record) (route : Route) → canonical_record r ≡ true → length (levels (view r)) ≡ level_count → length route.domain.now ≤ 253
    → route.own + route.more ≤ level_count → length (routed_text route (view r)) ≤ address_room
unfolding address_text
length_routed r route h l short few =
    let u : List ℕ = local_text keys (remaining (route.own + route.more) (view r)) in
    let d : List ℕ = route.domain.now in
    let x : List Token = take route.more (drop route.own (levels (view r))) in
    let g = length-told r h l route.own route.more few in
    rw (extended-fronts d x)
    (omega (arith, length-append (quoted_local u) (64 ∷ fronts x ++ d), length-append (fronts x) d, g, short))

-- ---- the address that was written

pub wrote_fronted : {o n t : List ℕ} {j : ℕ} → Wrote o 0 t j n → length t ≤ length o → Fronted (some t) o j n
wrote_fronted {o} {n} {t} {j} w h =
    let e : t ≡ take j n = sym (wrote_taken w h) in
    record { told = ap some e; fits = omega (arith, w.moved, wrote-length w); wrote = subst (λ (s : List ℕ). Wrote o 0 s j n) e w }

module _ (t : Table) (a : Attributes) where
  pub address-carried : is_carrier t a ≡ true → address_of t a ≡ carried_address a.dds
  unfolding address_of
  address-carried h = rw h

  pub address-planned : is_carrier t a ≡ false → address_of t a ≡ some (planned (plan t (levels a)) a)
  unfolding address_of
  address-planned h = rw h

-- the test of the code is the definition's
pub carrier_test : (s ds rs : List ℕ) (t : load.Loaded.Loaded) (a : Attributes) (ls : List Token) → ls ≡ levels a
    → is_carrier_at (row_at s t.gateway).path ls a ≡ is_carrier (table_at s ds rs t) a
unfolding is_carrier table_at
carrier_test s ds rs t a ls e = ap (λ (l : List Token). is_carrier_at (row_at s t.gateway).path l a) e

pub planned-route : {ls : List Token} {p : Plan} {r : Route} (a : Attributes) → Routed ls p r
    → planned p a ≡ address_text (local_text keys (remaining (r.own + r.more) a)) (extended r.domain.now (take r.more (drop r.own ls)))
unfolding planned
planned-route a h = rw (h.from, h.domain)

-- ---- the answers

module _ (t : Table) (r : Record) (old : List ℕ) where
  pub answer-not : canonical_record r ≡ false → told_address (Err NotCanonical) old ≡ to_address t r old
  unfolding told_address address_number address_bad_line to_address refused_address
  answer-not h = rw h

  pub answer-none : canonical_record r ≡ true → address_of t (view r) ≡ none → told_address (Err NoAddress) old ≡ to_address t r old
  unfolding told_address address_number address_bad_line to_address placed_in refused_address
  answer-none h e = rw (h, e)

  pub answer-placed : (s : List ℕ) → canonical_record r ≡ true → address_of t (view r) ≡ some s → placed s old ≡ to_address t r old
  unfolding to_address placed_in
  answer-placed s h e = rw (h, e)

-- only the gateway and the rows from a path to a domain are read
module _ (s ds rs : List ℕ) (t : load.Loaded.Loaded) where
  pub address-under : (a : Attributes) → address_of (outward s rs t) a ≡ address_of (table_at s ds rs t) a
  address-under a = outward-same s ds rs t a

  pub address-table : (r : Record) (old : List ℕ) → to_address (outward s rs t) r old ≡ to_address (table_at s ds rs t) r old
  unfolding to_address
  address-table r old = ap (λ (o : Option (List ℕ)). cond (canonical_record r) (placed_in old o) (refused_address 4 old)) (address-under (view r))
