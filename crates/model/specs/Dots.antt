-- What the calls ask of a dot (§1.2).
--     good_ink, acceptable_dot       what an insert asks of it, and §2.12 of every dot in the tree
--     shows        whether its ink is one of the query's
--     is_hit        whether a query lists it
--     all_inks, of_all_inks   the mask of all inks; a query of all inks
--     any_dot       what every dot passes
--     matches      whether a remove takes it
--     zero_dot      what a free place holds
use Rattle.std.specs.Prelude.{Bool, true, ◌&&◌, ℕ, eqb, leb}
use Rattle.geometry.specs.declared.aabb.AABB.{AABB}
use Rattle.geometry.specs.declared.settings.Settings.{Settings}
use Rattle.geometry.specs.Rectangles.{intersects, zero_rect}
use Rattle.geometry.specs.Settings.{acceptable}
use Rattle.arithmetic.specs.Bits.{bit_at}
use Rattle.model.specs.declared.Dot.{Dot}
use Rattle.model.specs.declared.Window.{Window}

-- §1.7: an ink is 0 to 15
unfoldable pub good_ink : Dot → Bool
good_ink d = leb d.ink 15

-- §2.12: refusals 4 and 5 let its rectangle pass, and 10 its ink
unfoldable pub acceptable_dot : Settings → Dot → Bool
acceptable_dot s d = acceptable s d.rect && good_ink d

-- §1.7: bit k of a mask stands for ink k
unfoldable pub shows : Window → Dot → Bool
shows q d = bit_at q.inks d.ink

abbrev pub all_inks : ℕ
all_inks = 65535

abbrev pub of_all_inks : AABB → Window
of_all_inks r = record { rect = r; inks = all_inks }

-- §8.3: its rectangle intersects the query's, and its ink is one of the query's
unfoldable pub is_hit : Window → Dot → Bool
is_hit q d = intersects q.rect d.rect && shows q d

-- §8.7: all lists every dot
abbrev pub any_dot : Dot → Bool
any_dot d = true

-- §6.2: it has the id, whatever its rectangle
unfoldable pub matches : ℕ → Dot → Bool
matches id d = eqb id d.id

-- §2.9
abbrev pub zero_dot : Dot
zero_dot = record { id = 0; rect = zero_rect; ink = 0 }
