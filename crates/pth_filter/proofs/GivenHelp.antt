-- Help that was not written whole.
use Rattle.std.proofs.Common.{ℕ, List, arith, inl, inr}
use Rattle.pth_streams.specs.Faults.{Rose}
use Rattle.pth_streams.specs.Pieces.{AppendsPart, AppendsPrefix, Received, WritesLine}
use Rattle.pth_streams.proofs.Pieces.{all_of, part_is_prefix}
use Rattle.pth_filter.specs.Faults.{Reports}
use Rattle.pth_print.specs.FaultLines.{fault_line}
use Rattle.pth_filter.specs.Help.{Helps}
use Rattle.pth_print.specs.declared.fault_line.Fault.TheVariants as fault

module _ (program help : List ℕ) (old new w x : Received) where
  -- `out` failed
  pub failed : (status : ℕ) → AppendsPart old.written new.written help → Rose old.faults new.faults
      → Reports program fault.WriteFault status w x → Helps program help status old new w x
  failed status part rose (inl h) = record {
    whole = λ e. absurd (let five = h.0 in omega (arith, e, five));
    write = λ e. (part, rose, h.1);
    memory = λ e. absurd (let five = h.0 in omega (arith, e, five));
    known = inr (inl h.0);
  }
  failed status part rose (inr h) = record {
    whole = λ e. absurd (let seven = h.0 in omega (arith, e, seven));
    write = λ e. absurd (let seven = h.0 in omega (arith, e, seven));
    memory = λ e. (part_is_prefix old.written new.written help part, (fault.WriteFault, h.1.0));
    known = inr (inr h.0);
  }

  begun : (line : List ℕ) → WritesLine w x line → AppendsPrefix w.written x.written line
  begun line (inl all) = all_of w.written x.written line all.0
  begun line (inr part) = part_is_prefix w.written x.written line part.0

  -- memory ran out for writing
  pub ran_out : (status : ℕ) → AppendsPart old.written new.written help
      → Reports program fault.OutOfMemory status w x → Helps program help status old new w x
  ran_out status part (inl h) = record {
    whole = λ e. absurd (let seven = h.0 in omega (arith, e, seven));
    write = λ e. absurd (let seven = h.0 in omega (arith, e, seven));
    memory = λ e. (part_is_prefix old.written new.written help part, (fault.OutOfMemory, begun (fault_line program fault.OutOfMemory) h.1));
    known = inr (inr h.0);
  }
  ran_out status part (inr h) = record {
    whole = λ e. absurd (let seven = h.0 in omega (arith, e, seven));
    write = λ e. absurd (let seven = h.0 in omega (arith, e, seven));
    memory = λ e. (part_is_prefix old.written new.written help part, (fault.OutOfMemory, h.1.0));
    known = inr (inr h.0);
  }
