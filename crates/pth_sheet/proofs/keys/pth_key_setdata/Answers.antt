use Rattle.std.proofs.Common.{refl}
use Rattle.pth_store.specs.Keys.{is_key, key_named}
use Rattle.pth_model.specs.Calls.{begun}
use Rattle.pth_model.specs.Resources.{told, answer_told}
use Rattle.pth_model.specs.Rows.{row_of}
use Rattle.pth_sheet.specs.States.{keys_of}
use Rattle.pth_sheet.proofs.Cases.{by_cases}
use Rattle.pth_sheet.proofs.keys.pth_key_setdata.Goals as goal

pub returns : goal.returns
unfolding begun row_of told answer_told
returns p c = λ s t k v.
    by_cases (is_key (keys_of s) (key_named k)) (λ b0. rw (b0) refl) (λ b0. rw (b0) refl)
