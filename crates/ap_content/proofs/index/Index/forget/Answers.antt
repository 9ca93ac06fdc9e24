use Rattle.std.proofs.Common.{◌≡◌, ◌≢◌, ℕ, Some, Contains, Bool, true, false, not, ◌==◌, inl, inr, ⊎_elim, sym, subst, refl}
use Rattle.std.proofs.lemmas.Bool.Decides.{Decides-eqb}
use Rattle.std.specs.HashMap.{get}
use Rattle.ap_content.proofs.Indexing.{eq}
use Rattle.ap_content.proofs.Members.{Contains-filter, Contains-filtered}
use Rattle.ap_content.proofs.index.Index.forget.Goals as goal

not_true : (b : Bool) → not b ≡ true → b ≡ true → ⊥
not_true true e f = cc
not_true false e f = cc

apart_from : (m n : ℕ) → not (m == n) ≡ true → m ≢ n
apart_from m n e same = not_true (m == n) e ((Decides-eqb m n).1 same)

not_equal : (m n : ℕ) → m ≢ n → (b : Bool) → m == n ≡ b → not b ≡ true
not_equal m n apart true e = absurd (apart ((Decides-eqb m n).0 e))
not_equal m n apart false e = refl

pub returns : goal.returns
returns c =
    let clashes = c.forget_clashes.ensures in
    record {
      gone = λ d. ⊎_elim
          (λ e. let old = c.forget_first.ensures.only d c.args.n e in
          c.forget_first.ensures.gone (subst (λ w. get eq c.forget_first.new.first w ≡ Some c.args.n) (c.requires d (inl old)) e))
          (λ f. let g = Contains-filtered (λ clash. not (clash.1 == c.args.n)) c.args.self.now.clashes.items (d, c.args.n) (subst (λ xs. Contains xs (d, c.args.n)) clashes f) in
          apart_from c.args.n c.args.n g.1 refl);
      still = λ d m apart. ⊎_elim
          (λ e. inl (c.forget_first.ensures.still d m apart e))
          (λ f. inr (subst (λ xs. Contains xs (d, m)) (sym clashes) (Contains-filter (λ clash. not (clash.1 == c.args.n)) c.args.self.now.clashes.items (d, m) (not_equal m c.args.n apart _ refl) f)));
      only = λ d m. ⊎_elim
          (λ e. inl (c.forget_first.ensures.only d m e))
          (λ f. inr ((Contains-filtered (λ clash. not (clash.1 == c.args.n)) c.args.self.now.clashes.items (d, m) (subst (λ xs. Contains xs (d, m)) clashes f)).0));
    }
