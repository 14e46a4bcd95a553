use Rattle.std.proofs.Common.{rules}
use Rattle.std.proofs.lemmas.Map.Made.{filter_same_pairs}
use Rattle.pth_audit.proofs.Places.{key_forgotten}
use Rattle.pth_audit.proofs.values.forget_key.Goals as goal

pub returns : goal.returns
returns c = key_forgotten c.args.values.now c.retain.new.self c.args.k (filter_same_pairs _ _ _ (λ k v b w f' t. search rules) _ _ c.retain.ensures.filtered)
