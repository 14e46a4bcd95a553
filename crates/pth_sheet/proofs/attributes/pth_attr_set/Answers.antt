use Rattle.std.proofs.Common.{refl}
use Rattle.pth_threads.specs.Attributes.{is_fixed, is_in_range}
use Rattle.pth_model.specs.Calls.{begun}
use Rattle.pth_model.specs.Resources.{told, answer_told}
use Rattle.pth_model.specs.Rows.{row_of}
use Rattle.pth_sheet.proofs.Cases.{by_cases}
use Rattle.pth_sheet.proofs.attributes.pth_attr_set.Goals as goal

pub returns-clause-no_object : goal.returns-clause-no_object
unfolding begun row_of told answer_told
returns-clause-no_object p c = λ s t a v g0.
    rw (g0) refl

pub returns-clause-of_unbound_object : goal.returns-clause-of_unbound_object
unfolding begun row_of told answer_told
returns-clause-of_unbound_object p c = λ s t a v x g0.
    by_cases (is_fixed v) (λ b0. rw (g0, b0) refl) (λ b0. by_cases (is_in_range s.control.top v) (λ b1. rw (g0, b0, b1) refl) (λ b1. rw (g0, b0, b1) refl))

pub returns-clause-thread_is_gone : goal.returns-clause-thread_is_gone
unfolding begun row_of told answer_told
returns-clause-thread_is_gone p c = λ s t a v u g0 g1.
    rw (g0, g1) refl

pub returns-clause-of_bound_object : goal.returns-clause-of_bound_object
unfolding begun row_of told answer_told
returns-clause-of_bound_object p c = λ s t a v u e g0 g1.
    by_cases (is_fixed v) (λ b0. rw (g0, g1, b0) refl) (λ b0. by_cases (is_in_range s.control.top v) (λ b1. rw (g0, g1, b0, b1) refl) (λ b1. rw (g0, g1, b0, b1) refl))
