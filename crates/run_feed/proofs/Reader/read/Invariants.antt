-- Each piece brings a byte at least.
use Rattle.std.proofs.Common.{◌≤◌}
use Rattle.run_feed.proofs.Reader.read.Given as goal

abbrev pub invariant-loop : goal.invariant-loop
invariant-loop g l = l.counter ≤ l.now.came
