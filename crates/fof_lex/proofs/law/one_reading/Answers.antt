use Rattle.fof_lex.proofs.Steps.{one_list, one_offset, not_both, some_reading}
use Rattle.fof_lex.proofs.law.one_reading.Goals as goal

pub returns : goal.returns
returns c =
    record {
      some = λ bytes. some_reading bytes;
      one_list = λ bytes tokens others. one_list 0 bytes tokens others;
      one_offset = λ bytes offset other. one_offset 0 bytes offset other;
      not_both = λ bytes tokens offset. not_both 0 bytes tokens offset;
    }
