-- The descriptors of which waits and events ask.
use Rattle.std.proofs.Common.{ℕ, List, [], ◌∷◌}
use Rattle.pth_base.specs.declared.event.EventSpec.{EventSpec}
use Rattle.pth_base.specs.declared.event.EventSpec.TheVariants as of
use Rattle.pth_kernel.specs.Kernel.{fd_named}
use Rattle.pth_model.specs.declared.awaits.Awaits.{Awaits}
use Rattle.pth_model.specs.declared.awaits.Awaits.TheVariants as awaits
use Rattle.pth_agreement.specs.Descriptors.{in_sets}

abbrev pub asked_by_wait : Awaits → List ℕ
asked_by_wait (awaits.Reading f n) = fd_named f ∷ []
asked_by_wait (awaits.Writing f total done) = fd_named f ∷ []
asked_by_wait (awaits.Connection f) = fd_named f ∷ []
asked_by_wait (awaits.ConnectAnswer f) = fd_named f ∷ []
asked_by_wait (awaits.Selection r w x deadline) = in_sets r w x
asked_by_wait a = []

abbrev pub asked_by_event : EventSpec → List ℕ
asked_by_event (of.Fd goals fd) = fd_named fd ∷ []
asked_by_event (of.Select r w x) = in_sets r w x
asked_by_event spec = []
