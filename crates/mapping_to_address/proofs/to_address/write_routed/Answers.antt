-- `mapping_to_address::to_address::write_routed` meets its contract: the local part, the `@`, the levels in front and the row's domain, one after the
-- other.
-- Assumes nothing.
use mathlib.Core.Path.{◌≡◌, sym, ap, ◌∙◌}
use mathlib.Core.Bool.{true}
use mathlib.Core.List.{List}
use Prim.Native.Nat.{ℕ, ◌+◌, ◌≤◌}
use native.Mathlib.Omega.{arith}
use lib.ListN.{length, take, drop, length-set}
use Rattle.chars.specs.Write.{Wrote}
use Rattle.chars.proofs.Laws.Write.{wrote-length, wrote_one, wrote_over, wrote_taken, wrote_then}
use Rattle.oraddr.specs.Attributes.{levels}
use Rattle.oraddr.specs.View.{view}
use Rattle.oraddr.proofs.Laws.Canonical.{canonical-view}
use Rattle.ortext_segments.specs.Keys.{keys}
use Rattle.ortext_write.specs.Write.{local_text, longest_text, remaining}
use Rattle.ortext_write.proofs.Laws.Write.{local_bound}
use Rattle.mailaddr.specs.Shape.{address_text, quoted_local}
use Rattle.table_lookup.specs.Tokens.{tokens_of}
use Rattle.table_lookup.specs.declared.levels.Levels.{Levels}
use Rattle.mapping.specs.Answers.{address_room}
use Rattle.mapping.proofs.Laws.Flat.{extended-fronts}
use Rattle.mapping.proofs.Laws.Route.{length-told, length-tokens}
use Rattle.mailaddr.proofs.Laws.Shape.{quoted_longer}
use Rattle.oraddr.specs.Canonical.{canonical_record}
use Rattle.oraddr.specs.declared.record.Record.{Record}
use Rattle.mapping_to_address.proofs.to_address.write_routed.Goals as goal

-- the local part of a record of which k levels go in front of a domain
abbrev local_part : Record → ℕ → List ℕ
local_part r k = local_text keys (remaining k (view r))

local_fits : (r : Record) (k : ℕ) → canonical_record r ≡ true → length (local_part r k) ≤ longest_text
local_fits r k h = local_bound (view r) (canonical-view r h) k

local_written : {o l : List ℕ} {m : ℕ} (r : Record) (k : ℕ) → canonical_record r ≡ true → length o ≡ address_room → Wrote o 0 (local_part r k) m l
    → take m l ≡ local_part r k
local_written r k h e w = let f = local_fits r k h in wrote_taken w (omega arith)

-- what stands in the buffer behind the local part, in quotes or not
quoted : {o l q : List ℕ} {m j : ℕ} (r : Record) (k : ℕ) → canonical_record r ≡ true → length o ≡ address_room → Wrote o 0 (local_part r k) m l
    → Wrote l 0 (quoted_local (take m l)) j q → Wrote o 0 (quoted_local (local_part r k)) j q
quoted r k h e w v = wrote_over w (rw (local_written r k h e w) at v) (omega arith) (omega (arith, quoted_longer (local_part r k)))

-- where it ends, with the levels that are to go in front of the domain
quoted_end : {o q t : List ℕ} {j : ℕ} (f : ℕ) → length o ≡ address_room → length t + f ≤ longest_text + 2 → Wrote o 0 t j q
    → (j + f ≤ longest_text + 2) × (length q ≡ address_room)
quoted_end f e h w = (omega (arith, w.moved), wrote-length w ∙ e)

eight : (l : Levels) (r : Record) → tokens_of l ≡ levels (view r) → length (levels (view r)) ≡ 8
eight l r e = sym (ap length e) ∙ length-tokens l.bytes.now l.ends.now

pub write_local-m-requires : goal.write_local-m-requires
write_local-m-requires c =
    let f = local_fits c.args.rec (c.args.route.own + c.args.route.more) c.requires.canonical in
    omega (arith, c.requires.dst_len)

pub quote_front-at-requires : goal.quote_front-at-requires
quote_front-at-requires c =
    let k = c.args.route.own + c.args.route.more in
    let w = c.write_local-m.ensures in
    let f = local_fits c.args.rec k c.requires.canonical in
    let l = wrote-length w in
    let t =
    length-told c.args.rec c.requires.canonical (eight c.args.levels.now c.args.rec c.requires.same_levels) c.args.route.own c.args.route.more c.args.route.few in
    record {
      n_le_local_room = (omega (arith, w.moved), omega (arith, w.moved, c.requires.dst_len));
      dst_in_bounds = rw (local_written c.args.rec k c.requires.canonical c.requires.dst_len w) (omega (arith, c.requires.dst_len));
    }

pub bounds-dst-at : goal.bounds-dst-at
bounds-dst-at c =
    let r = c.args.route in
    let e =
    quoted_end _ c.requires.dst_len
    (length-told c.args.rec c.requires.canonical (eight c.args.levels.now c.args.rec c.requires.same_levels) r.own r.more c.args.route.few)
    (quoted c.args.rec (r.own + r.more) c.requires.canonical c.requires.dst_len c.write_local-m.ensures c.quote_front-at.ensures) in
    omega (arith, e.0, e.1)

pub overflow_add-at : goal.overflow_add-at
overflow_add-at c =
    let r = c.args.route in
    let e =
    quoted_end _ c.requires.dst_len
    (length-told c.args.rec c.requires.canonical (eight c.args.levels.now c.args.rec c.requires.same_levels) r.own r.more c.args.route.few)
    (quoted c.args.rec (r.own + r.more) c.requires.canonical c.requires.dst_len c.write_local-m.ensures c.quote_front-at.ensures) in
    omega (arith, e.0)

pub put_fronts-from-requires : goal.put_fronts-from-requires
put_fronts-from-requires c =
    let r = c.args.route in
    let e =
    quoted_end _ c.requires.dst_len
    (length-told c.args.rec c.requires.canonical (eight c.args.levels.now c.args.rec c.requires.same_levels) r.own r.more c.args.route.few)
    (quoted c.args.rec (r.own + r.more) c.requires.canonical c.requires.dst_len c.write_local-m.ensures c.quote_front-at.ensures) in
    record {
      n_bound = c.args.route.few;
      fronts_in_bounds = rw c.requires.same_levels (simp length-set (omega (arith, e.0, e.1)));
    }

pub put-requires : goal.put-requires
put-requires c =
    let r = c.args.route in
    let p = c.quote_front-at in
    let e =
    quoted_end _ c.requires.dst_len
    (length-told c.args.rec c.requires.canonical (eight c.args.levels.now c.args.rec c.requires.same_levels) r.own r.more c.args.route.few)
    (quoted c.args.rec (r.own + r.more) c.requires.canonical c.requires.dst_len c.write_local-m.ensures p.ensures) in
    let w = rw c.requires.same_levels at c.put_fronts-from.ensures in
    let d = r.short in
    omega (arith, w.moved, wrote-length w, length-set p.new.dst p.result 64, d, e.0, e.1)

pub shape_of-dst : goal.shape_of-dst
shape_of-dst c =
    let p = c.quote_front-at in
    wrote-length c.put.ensures
    ∙ wrote-length c.put_fronts-from.ensures
    ∙ length-set p.new.dst p.result 64
    ∙ wrote-length p.ensures
    ∙ wrote-length c.write_local-m.ensures

pub returns : goal.returns
unfolding address_text
returns c =
    let r = c.args.route in
    let fronted = rw c.requires.same_levels at c.put_fronts-from.ensures in
    rw (extended-fronts r.domain.now (take r.more (drop r.own (levels (view c.args.rec)))))
    (wrote_then
    (quoted c.args.rec (r.own + r.more) c.requires.canonical c.requires.dst_len c.write_local-m.ensures c.quote_front-at.ensures)
    (wrote_then (wrote_one 64) (wrote_then fronted c.put.ensures)))
