use Rattle.std.proofs.Common.{◌≡◌, ◌∙◌, ◌++◌, ap, arith}
use Rattle.std.proofs.lemmas.Result.{IfOk-weaker}
use Rattle.pth_script.specs.Generated.{head_text, spawned_texts, tail_text}
use Rattle.pth_script.proofs.Generating.{all_of_it, first_number, next_number, no_spawns, one_spawn}
use Rattle.pth_script.proofs.generate.generate.Goals as goal

pub threads-init : goal.threads-init
threads-init c = record {
  made = c.in_ok-push.ensures.ok ∙ ap (λ t. t ++ head_text) c.new-text.ensures ∙ no_spawns c.args.n head_text;
  number = c.from-number.ensures ∙ first_number c.args.n;
  small = omega (arith, c.from-number.ensures, c.requires.1);
}

pub threads-preserved : goal.threads-preserved
threads-preserved c =
    let next = next_number c.args.n c.threads.i c.threads.number c.threads.invariant.number in
    record {
      made = one_spawn c.args.n c.threads.i _ head_text c.threads.text c.add_spawn.new.text c.threads.invariant.made next c.in_ok-add_spawn.ensures;
      number = next;
      small = omega arith;
    }

pub returns : goal.returns
returns c =
    let all : c.threads.i ≡ c.args.n = omega (arith, c.from-i-end.ensures, c.threads-test.false, c.threads.auto.i-end) in
    let made = c.threads.invariant.made ∙ ap (λ k. head_text ++ spawned_texts c.args.n k) all in
    IfOk-weaker c.from_slice.result _ _ (λ text is. is ∙ c.as_slice.ensures ∙ c.in_ok-push-2.ensures.ok ∙ ap (λ t. t ++ tail_text) made ∙ all_of_it c.args.n) c.from_slice.ensures
