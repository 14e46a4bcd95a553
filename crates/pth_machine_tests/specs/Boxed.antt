-- Two bodies and rules that are handed in as boxes.
use Rattle.std.specs.Prelude.{ℕ, zero, suc, pos, false, replicate, None}
use Rattle.pth_base.specs.declared.call.Call.{Call}
use Rattle.pth_base.specs.declared.call.Call.TheVariants as call
use Rattle.pth_bodies.specs.Bodies.{BodyFunctions, RuleFunctions}
use Rattle.pth_bodies.specs.declared.regs.Regs.{Regs}

-- the registers at a place
abbrev pub at : ℕ → Regs
at place = record { place = place; r = replicate 16 (pos 0) }

abbrev pub next_place : ℕ → ℕ
next_place zero = 1
next_place (suc n) = 2

-- main spawns body 1 with 9, yields, and exits with 0
abbrev pub main_call : ℕ → Call
main_call zero = call.Spawn (pos 1) (pos 9) (pos 0)
main_call (suc zero) = call.Yield (pos 0)
main_call (suc (suc n)) = call.Exit (pos 0)

abbrev pub main_functions : BodyFunctions
main_functions = record {
  entry = λ arg. at 0;
  step = λ regs cells a. record { call = main_call regs.place; state = record regs { place = next_place regs.place }; shared = cells };
}

-- a thread of body 1 exits with 9
abbrev pub child_functions : BodyFunctions
child_functions = record {
  entry = λ arg. at 0;
  step = λ regs cells a. record { call = call.Exit (pos 9); state = regs; shared = cells };
}

-- no check holds, and no handler acts
abbrev pub no_rules : RuleFunctions
no_rules = record {
  check = λ check arg cells. false;
  act = λ handler arg index cells. record { act = None; shared = cells };
}
