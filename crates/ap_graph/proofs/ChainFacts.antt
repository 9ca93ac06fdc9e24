-- Chains, joined and one step longer.
use Rattle.std.proofs.Common.{List, Contains, sym, subst, inl, inr}
use Rattle.ap_text.specs.Chain.{Chain, step, through, Reaches}

module _ {X : Type 0} {next : X → List X} where
  pub chain_join : {a b c : X} → Chain next a b → Chain next b c → Chain next a c
  chain_join (step h) more = through h more
  chain_join (through h rest) more = through h (chain_join rest more)

  pub chain_push : {a b c : X} → Chain next a b → Contains (next b) c → Chain next a c
  chain_push chain h = chain_join chain (step h)

  pub reach_push : {a b c : X} → Reaches next a b → Contains (next b) c → Chain next a c
  reach_push {a = a} {c = c} (inl e) h = step (subst (λ (w : X). Contains (next w) c) (sym e) h)
  reach_push (inr chain) h = chain_push chain h

  pub reach_first : {a b c : X} → Contains (next a) b → Reaches next b c → Chain next a c
  reach_first {a = a} h (inl e) = step (subst (λ (w : X). Contains (next a) w) e h)
  reach_first h (inr chain) = through h chain

  pub reach_join : {a b c : X} → Reaches next a b → Reaches next b c → Reaches next a c
  reach_join {c = c} (inl e) more = subst (λ (w : X). Reaches next w c) (sym e) more
  reach_join {a = a} (inr chain) (inl e) = inr (subst (λ (w : X). Chain next a w) e chain)
  reach_join (inr chain) (inr more) = inr (chain_join chain more)
