-- The measure is what is left of the piece.
use Rattle.std.proofs.Common.{length}
use Rattle.run_feed.proofs.Reader.take.Given as goal

abbrev pub decreases-loop-rest : goal.decreases-loop-rest
decreases-loop-rest g l = length l.rest
