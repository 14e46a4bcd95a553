use Rattle.pth_laws.proofs.Refused.{initialised_first, initialised_below, initialised_once, initialised_in_range, enters_once}
use Rattle.pth_laws.proofs.initialised.initialised_refuses.Goals as goal

pub returns-clause-uninitialised : goal.returns-clause-uninitialised
returns-clause-uninitialised c = initialised_first

pub returns-clause-below : goal.returns-clause-below
returns-clause-below c = initialised_below

pub returns-clause-twice : goal.returns-clause-twice
returns-clause-twice c = initialised_once

pub returns-clause-beyond : goal.returns-clause-beyond
returns-clause-beyond c = initialised_in_range

pub returns-clause-reader : goal.returns-clause-reader
returns-clause-reader c = enters_once
