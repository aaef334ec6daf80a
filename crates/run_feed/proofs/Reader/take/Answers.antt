-- No more of the piece is taken than is left of it.
use mathlib.Core.Path.{sym, ◌∙◌}
use Rattle.log_format.specs.Format.Fragment.{first_edition}
use Rattle.run_feed.proofs.Taken.{within}
use Rattle.run_feed.proofs.Reader.take.Goals as goal

pub slice_bounds-rest-count : goal.slice_bounds-rest-count
slice_bounds-rest-count g c = within first_edition _ _ _ _ (sym c.take-taken.ensures.took_value ∙ c.in-Ok.is)

pub slice_bounds-rest-start : goal.slice_bounds-rest-start
slice_bounds-rest-start g c = slice_bounds-rest-count g c
