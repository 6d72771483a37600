use Rattle.std.proofs.Common.{arith}
use Rattle.fof_parse.proofs.OverTable.{free_within, no_param, symbols_used, start_closed}
use Rattle.fof_parse.proofs.law.closed_start.Goals as goal

pub returns : goal.returns
returns c =
    record {
      start = λ problem kept. start_closed problem kept;
      closed = λ table a h. omega (arith, free_within table 0 a h);
      no_param = λ table a h q. no_param table 0 q a h;
      symbols = λ table a h. symbols_used table 0 a h;
    }
