-- The fault that an error of a part is.
use Rattle.pth_print.specs.declared.fault_line.Fault.{Fault}
use Rattle.pth_print.specs.declared.fault_line.Fault.TheVariants as fault
use Rattle.pth_print.specs.declared.fault_line.Flaw.TheVariants.{Breaks}
use Rattle.pth_text.specs.declared.rule.Breach.TheVariants.{Limit, Of}
use Rattle.pth_script.specs.declared.read.ReadErr.{ReadErr}
use Rattle.pth_script.specs.declared.read.ReadErr.TheVariants as script
use Rattle.pth_command.specs.declared.command_line.WordsErr.{WordsErr}
use Rattle.pth_command.specs.declared.command_line.WordsErr.TheVariants as words

abbrev pub fault_of_words : WordsErr → Fault
fault_of_words words.Refused = fault.Words
fault_of_words words.OutOfMemory = fault.OutOfMemory

abbrev pub fault_of_script : ReadErr → Fault
fault_of_script (script.Refused line r) = fault.Input line (Breaks (Of r))
fault_of_script (script.TooLarge line) = fault.Input line (Breaks Limit)
fault_of_script script.OutOfMemory = fault.OutOfMemory
