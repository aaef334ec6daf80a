-- The record stays as it is.
use Rattle.std.proofs.Common.{◌≡◌}
use Rattle.run_trailers.proofs.Trailer.each_byte_dirty.Given as goal

abbrev pub invariant-loop-place : goal.invariant-loop-place
invariant-loop-place g l = l.bench.record ≡ l.fn.bench.record
