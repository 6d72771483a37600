-- The plain trees of free terms, level by level.
use Rattle.std.proofs.Common.{◌≡◌, ℕ, List}
use Rattle.free_terms.specs.Free as free
use Rattle.free_terms.specs.View.{term_of, terms_of, name_of, term_level}
use Rattle.free_terms.specs.declared.term.Name.{Name}
use Rattle.free_terms.specs.declared.term.FTerm.{FTerm, fold-roll-FTerm}
use Rattle.free_terms.specs.declared.term.FTerm.TheVariants.{Bound, Meta, Skolem, App}
use Rattle.free_terms.specs.declared.term.FTerm.TheOpen.{FTerm-F}
use Rattle.free_terms.specs.declared.term.FTerm.TheViews.{roll-FTerm}
use denote.Hole.Carrier.{roll}

pub term_of_bound : (n : ℕ) → term_of (Bound n) ≡ free.bound n
unfolding roll-FTerm roll
term_of_bound n = fold-roll-FTerm free.FreeTerm term_level (FTerm-F.Bound n)

pub term_of_meta : (x : Name) → term_of (Meta x) ≡ free.metavar (name_of x)
unfolding roll-FTerm roll
term_of_meta x = fold-roll-FTerm free.FreeTerm term_level (FTerm-F.Meta x)

pub term_of_skolem : (x : Name) (us : List FTerm) → term_of (Skolem x us) ≡ free.skolem (name_of x) (terms_of us)
unfolding roll-FTerm roll
term_of_skolem x us = fold-roll-FTerm free.FreeTerm term_level (FTerm-F.Skolem x us)

pub term_of_app : (f : ℕ) (us : List FTerm) → term_of (App f us) ≡ free.app f (terms_of us)
unfolding roll-FTerm roll
term_of_app f us = fold-roll-FTerm free.FreeTerm term_level (FTerm-F.App f us)

pub ruleset levels = (term_of_bound, term_of_meta, term_of_skolem, term_of_app)
