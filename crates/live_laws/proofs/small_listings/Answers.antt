use Rattle.live_laws.proofs.Small.{circle_is_listed, wedge_is_listed, torus_is_listed}
use Rattle.live_laws.proofs.small_listings.Goals as goal

pub returns : goal.returns
returns c = record { circle = circle_is_listed; wedge = wedge_is_listed; torus = torus_is_listed }
