use Rattle.std.proofs.Common.{rules}
use Rattle.std.proofs.lemmas.Map.Made.{filter_same_pairs}
use Rattle.pth_audit.proofs.Places.{thread_forgotten}
use Rattle.pth_audit.proofs.values.forget_thread.Goals as goal

pub returns : goal.returns
returns c = thread_forgotten c.args.values.now c.retain.new.self c.args.t.0 (filter_same_pairs _ _ _ (λ k v b w f' t. search rules) _ _ c.retain.ensures.filtered)
