-- A drawing leaves the block as it is.
use Rattle.std.proofs.Common.{◌≡◌}
use Rattle.run_feed.proofs.Reader.draw.Given as goal

abbrev pub invariant-loop : goal.invariant-loop
invariant-loop g l = l.self.block ≡ l.fn.self.block
