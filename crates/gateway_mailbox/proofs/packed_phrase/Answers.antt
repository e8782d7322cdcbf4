-- `gateway_mailbox::packed_phrase` meets its contract.
-- Assumes nothing.
use mathlib.Core.Path.{ap, ◌∙◌}
use native.Mathlib.Omega.{arith}
use Rattle.gateway_pack.specs.Packed.{packed_place}
use Rattle.gateway_mailbox.proofs.Laws.Mailboxes.{place-small}
use Rattle.gateway_mailbox.proofs.packed_phrase.Goals as goal

pub pack_place-requires : goal.pack_place-requires
pack_place-requires c =
    let p = c.phrase_place-phrase in
    let small = place-small c.args.line.now p.result p.ensures in
    record { start_lt_place_limit = omega (arith, small); size_lt_place_limit = omega (arith, small) }

pub returns : goal.returns
returns c = c.pack_place.ensures ∙ ap packed_place c.phrase_place-phrase.ensures
