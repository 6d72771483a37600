use Rattle.std.proofs.Common.{◌∷◌, ◌+◌, length, refl, sym, ap, subst, ◌∙◌, arith}
use Rattle.std.proofs.lemmas.Bool.{ltb-true}
use Rattle.std.proofs.lemmas.Option.{slice_get_read}
use Rattle.fof_parse.specs.Reader.Text.{from, IsProper}
use Rattle.fof_parse.proofs.Texts.{next_from, proper_in, range_in}
use Rattle.fof_parse.proofs.text.token_at.Goals as goal

pub slice_bounds-token_of-count : goal.slice_bounds-token_of-count
slice_bounds-token_of-count c =
    let i = range_in c.args.text.now c.args.at c.in_ok-token.token.now c.requires
    (slice_get_read c.args.text.now.tokens.now (length c.args.text.now.tokens.now) c.args.at c.in_ok-token.token.now refl (ltb-true c.args.at (length c.args.text.now.tokens.now) (sym c.in_ok-token.ensures.lookup.0)) c.in_ok-token.ensures.lookup.1)
    in omega (arith, i.some)

pub slice_bounds-token_of-start : goal.slice_bounds-token_of-start
slice_bounds-token_of-start c =
    let i = range_in c.args.text.now c.args.at c.in_ok-token.token.now c.requires
    (slice_get_read c.args.text.now.tokens.now (length c.args.text.now.tokens.now) c.args.at c.in_ok-token.token.now refl (ltb-true c.args.at (length c.args.text.now.tokens.now) (sym c.in_ok-token.ensures.lookup.0)) c.in_ok-token.ensures.lookup.1)
    in omega (arith, i.some)

pub slice_bounds-token_of-end : goal.slice_bounds-token_of-end
slice_bounds-token_of-end c =
    let i = range_in c.args.text.now c.args.at c.in_ok-token.token.now c.requires
    (slice_get_read c.args.text.now.tokens.now (length c.args.text.now.tokens.now) c.args.at c.in_ok-token.token.now refl (ltb-true c.args.at (length c.args.text.now.tokens.now) (sym c.in_ok-token.ensures.lookup.0)) c.in_ok-token.ensures.lookup.1)
    in i.within

pub returns-clause-token : goal.returns-clause-token
returns-clause-token c =
    let got = slice_get_read c.args.text.now.tokens.now (length c.args.text.now.tokens.now) c.args.at c.in_ok-token.token.now refl (ltb-true c.args.at (length c.args.text.now.tokens.now) (sym c.in_ok-token.ensures.lookup.0)) c.in_ok-token.ensures.lookup.1 in
    let n = next_from c.args.text.now c.args.at c.in_ok-token.token.now got in
    (n.0 ∙ ap (λ t. t ∷ from c.args.text.now (c.args.at + 1)) (sym c.token_of.ensures), n.1)

pub returns-clause-proper : goal.returns-clause-proper
returns-clause-proper c =
    let got = slice_get_read c.args.text.now.tokens.now (length c.args.text.now.tokens.now) c.args.at c.in_ok-token.token.now refl (ltb-true c.args.at (length c.args.text.now.tokens.now) (sym c.in_ok-token.ensures.lookup.0)) c.in_ok-token.ensures.lookup.1 in
    subst IsProper (sym c.token_of.ensures) (proper_in c.args.text.now c.args.at c.in_ok-token.token.now c.requires got)
