use Rattle.pth_line.specs.Script.{functions_of}
use Rattle.pth_snapshot.proofs.Finding.{found_of}
use Rattle.pth_snapshot.proofs.Leading.{savable_there}
use Rattle.pth_snapshot.proofs.laws.what_is_saved_is_found.Goals as goal

pub returns-clause-savable : goal.returns-clause-savable
returns-clause-savable c = λ g i m st rests few. savable_there functions_of g i m st rests few

pub returns-clause-found : goal.returns-clause-found
returns-clause-found c = λ input text g i m gives st rests few saved r loaded. found_of input text g i m gives st rests few saved r loaded
