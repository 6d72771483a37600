use Rattle.std.proofs.Common.{◌≡◌, refl}
use Rattle.nego_node.specs.TwoAgents.{two_agents}
use Rattle.nego_plain.specs.Width.{leaf, fork, sites_at, width, attempts}

-- the two agents of the worked example: two items on the left, one on the right
two_agents_sites : sites_at two_agents 1 ≡ fork 0 (leaf 2) (leaf 1)
two_agents_sites = refl

two_agents_width : width (sites_at two_agents 1) ≡ 2
two_agents_width = refl

two_agents_attempts : attempts (sites_at two_agents 1) ≡ 4
two_agents_attempts = refl

-- two items on the left and none on the right: two attempts
open_row : attempts (fork 0 (leaf 2) (leaf 0)) ≡ 2
open_row = refl

-- each split multiplies
deep_row : attempts (fork 1 (fork 0 (leaf 2) (leaf 3)) (leaf 5)) ≡ 39
deep_row = refl
