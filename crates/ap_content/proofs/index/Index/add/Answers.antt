use Rattle.std.proofs.Common.{◌≡◌, ℕ, Some, None, false, is_some, Option, inl, inr, ⊎_elim}
use Rattle.std.specs.HashMap.{get}
use Rattle.ap_content.proofs.Indexing.{first_still, first_only, eq}
use Rattle.ap_content.proofs.index.Index.add.Goals as goal

none_there : (o : Option ℕ) → is_some o ≡ false → o ≡ None
none_there None e = cc
none_there (Some n) e = cc

pub returns-clause-added : goal.returns-clause-added
returns-clause-added c =
    let empty : get eq c.args.self.now.first c.args.digest ≡ None = none_there _ cc in
    let puts = c.insert.ensures.updates in
    record {
      finds = inl (c.in_ok-insert.ensures.updates.1);
      still = λ d m. ⊎_elim (λ e. inl (first_still (get eq c.args.self.now.first) (get eq c.insert.new.self) c.args.digest c.args.n empty c.in_ok-insert.ensures.updates.0 d m e)) inr;
      only = λ d m. ⊎_elim
          (λ e. ⊎_elim (λ f. inl (inl f)) inr (first_only (get eq c.args.self.now.first) (get eq c.insert.new.self) c.args.digest c.args.n empty c.in_ok-insert.ensures.updates.0 d m e))
          (λ f. inl (inr f));
    }
