-- A reading leaves the log and the record as they are, and each turn takes a byte at least.
use Rattle.std.proofs.Common.{◌≡◌, ◌≤◌}
use Rattle.report.proofs.Bench.read.Given as goal

abbrev pub invariant-loop : goal.invariant-loop
invariant-loop g l = (l.self.log ≡ l.fn.self.log) × (l.self.record ≡ l.fn.self.record) × (l.counter ≤ l.place)
