use Rattle.std.proofs.Common.{refl}
use Rattle.pth_threads.specs.Attributes.{is_of_thread, field_of_values, field_of_thread}
use Rattle.pth_model.specs.AttributeHandling.{answer_of}
use Rattle.pth_model.specs.Calls.{begun}
use Rattle.pth_model.specs.Resources.{told, answer_told}
use Rattle.pth_model.specs.Row.{refuses}
use Rattle.pth_model.specs.Rows.{row_of}
use Rattle.pth_model.specs.declared.verdict.Verdict.TheVariants.{Says}
use Rattle.pth_sheet.proofs.Cases.{by_cases}
use Rattle.pth_sheet.proofs.attributes.pth_attr_get.Goals as goal

pub returns-clause-no_object : goal.returns-clause-no_object
unfolding begun row_of told answer_told
returns-clause-no_object p c = λ s t a field g0.
    rw (g0) refl

pub returns-clause-of_unbound_object : goal.returns-clause-of_unbound_object
unfolding begun row_of told answer_told
returns-clause-of_unbound_object p c = λ s t a field x g0.
    by_cases (is_of_thread field) (λ b0. rw (g0, b0) refl) (λ b0. by_cases (refuses (Says (answer_of (field_of_values field x)))) (λ b1. rw (g0, b0, b1) refl) (λ b1. rw (g0, b0, b1) refl))

pub returns-clause-thread_is_gone : goal.returns-clause-thread_is_gone
unfolding begun row_of told answer_told
returns-clause-thread_is_gone p c = λ s t a field u g0 g1.
    rw (g0, g1) refl

pub returns-clause-of_bound_object : goal.returns-clause-of_bound_object
unfolding begun row_of told answer_told
returns-clause-of_bound_object p c = λ s t a field u e g0 g1.
    by_cases (is_of_thread field) (λ b0. by_cases (refuses (Says (answer_of (field_of_thread field e)))) (λ b1. rw (g0, g1, b0, b1) refl) (λ b1. rw (g0, g1, b0, b1) refl)) (λ b0. by_cases (refuses (Says (answer_of (field_of_thread field e)))) (λ b1. rw (g0, g1, b0, b1) refl) (λ b1. rw (g0, g1, b0, b1) refl))
