-- Document 01, "What comes back": two records are "the same".
-- Assumes nothing.
use Rattle.std.specs.Prelude.{Bool, ◌&&◌}
use Rattle.chars.specs.Case.{agree, same_text, equal_text}
use Rattle.oraddr.specs.Attributes.{Attributes, Dd}
use Rattle.oraddr.specs.View.{view}
use Rattle.oraddr.specs.declared.record.Record.{Record}

-- "the values and DD types agree: letter case aside, but DD values byte for byte"
unfoldable pub same_dd : Dd → Dd → Bool
unfolding same_text equal_text
same_dd d e = same_text d.kind e.kind && equal_text d.value e.value

-- document 01: "the same": "each attribute is present in both or in neither, their units and their DDs are as many and in the
-- same order". An absent attribute is empty, and agrees with an empty one alone.
unfoldable pub same_attributes : Attributes → Attributes → Bool
unfolding agree same_text same_dd
same_attributes a b = agree same_text a.single b.single && agree same_text a.units b.units && agree same_dd a.dds b.dds

unfoldable pub same_record : Record → Record → Bool
unfolding same_attributes view
same_record r s = same_attributes (view r) (view s)
