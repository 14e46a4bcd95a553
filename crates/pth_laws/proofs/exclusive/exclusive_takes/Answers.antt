use Rattle.pth_laws.proofs.Refused.{uninitialised_taken, twice_taken, beyond_taken, two_taken, reader_taken, below_taken, awaits_taken}
use Rattle.pth_laws.proofs.exclusive.exclusive_takes.Goals as goal

pub returns-clause-uninitialised : goal.returns-clause-uninitialised
returns-clause-uninitialised c = uninitialised_taken

pub returns-clause-twice : goal.returns-clause-twice
returns-clause-twice c = twice_taken

pub returns-clause-beyond : goal.returns-clause-beyond
returns-clause-beyond c = beyond_taken

pub returns-clause-two : goal.returns-clause-two
returns-clause-two c = two_taken

pub returns-clause-reader : goal.returns-clause-reader
returns-clause-reader c = reader_taken

pub returns-clause-below : goal.returns-clause-below
returns-clause-below c = below_taken

pub returns-clause-awaits : goal.returns-clause-awaits
returns-clause-awaits c = awaits_taken
