use Rattle.std.specs.Prelude.{List, [], ◌∷◌}
use Rattle.nego_node.specs.declared.tasks.Side.TheVariants.{Left, Right}
use Rattle.nego_node.specs.declared.moves.Move.TheVariants.{Try, Split, Ask, Adopt, Agree, Forbid, Refuse, Exhaust}
use Rattle.nego_node.specs.declared.acts.Act.{Act}
use Rattle.nego_node.specs.declared.acts.Act.TheVariants.{Receive, Post, Make}

-- the acts by their numbers, from 0
abbrev pub acts : List Act
acts =
    Receive ∷ Make Try ∷ Make Split ∷ Make (Ask Left) ∷ Make (Ask Right) ∷ Post Left ∷ Post Right ∷ Make (Adopt Left)
    ∷ Make (Adopt Right)
    ∷ Make Agree ∷ Make Forbid ∷ Make Refuse ∷ Make Exhaust ∷ []
