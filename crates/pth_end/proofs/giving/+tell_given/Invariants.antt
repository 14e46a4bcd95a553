use Rattle.pth_end.proofs.giving.+tell_given.Given as goal

abbrev pub decreases-tell_given : goal.decreases-tell_given
decreases-tell_given l = l.set
