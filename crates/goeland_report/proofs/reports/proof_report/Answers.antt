use Rattle.goeland_report.specs.Reported.{proof_of}
use Rattle.goeland_report.proofs.Commented.{printed_proof}
use Rattle.goeland_report.proofs.reports.proof_report.Goals as goal

pub returns-clause-of_tree : goal.returns-clause-of_tree
returns-clause-of_tree g c =
    printed_proof (g.S.OfferSpelling.text c.args.spelling.now) (g.met.S.OfferSpelling.line c.args.spelling.now) c.args.file.now (proof_of c.args.found) c.in_ok-first.first.items c.append_file_line.new.out.items c.in_ok-first.ensures c.in_ok-append_file_line.ensures
