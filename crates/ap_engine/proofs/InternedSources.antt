-- The sources of winners that are interned one after another.
use Rattle.std.proofs.Common.{◌≡◌, true, false, cond, List, [], ◌∷◌, ◌++◌, Contains, Option, refl, sym, ◌∙◌, subst, append_assoc}
use Rattle.std.proofs.lemmas.List.{append-nil}
use Rattle.std.proofs.lemmas.List.Elements.{filter-append, Contains-append_right}
use Rattle.ap_text.proofs.Members.{Contains-head}
use Rattle.ap_content.specs.Things.{bytes_thing}
use Rattle.ap_content.specs.Entries.{Entry}
use Rattle.ap_config.specs.declared.config.Config.{Config}
use Rattle.ap_scan.specs.declared.results.Winner.{Winner}
use Rattle.ap_db.specs.declared.db.Db.{Db}
use Rattle.ap_sources.specs.Sources.{is_some_item, matching, sources}
use Rattle.ap_engine.specs.declared.source.Source.{Source}
use Rattle.ap_engine.specs.Interned.{IsSourceOf, AreSourcesOf}
use Rattle.ap_engine.specs.Ledgers.{StayHeld}

stay_all : (db : Db) (contents : List (Option Entry)) (db' : Db) (contents' : List (Option Entry)) → StayHeld db contents db' contents' → (all : List Source) (winners : List Winner) → AreSourcesOf db contents all winners → AreSourcesOf db' contents' all winners
stay_all db contents db' contents' stay [] [] are = tt
stay_all db contents db' contents' stay [] (winner ∷ winners) are = absurd are
stay_all db contents db' contents' stay (source ∷ all) [] are = absurd are
stay_all db contents db' contents' stay (source ∷ all) (winner ∷ winners) are = (
  record { path = are.0.path; order = are.0.order; name = are.0.name; bytes = are.0.bytes; seen = are.0.seen; held = stay source.content (bytes_thing are.0.bytes) are.0.held },
  stay_all db contents db' contents' stay all winners are.1,
)

module _ (db : Db) (contents : List (Option Entry)) where
  both : (all more : List Source) (winners others : List Winner) → AreSourcesOf db contents all winners → AreSourcesOf db contents more others → AreSourcesOf db contents (all ++ more) (winners ++ others)
  both [] more [] others one two = two
  both [] more (winner ∷ winners) others one two = absurd one
  both (source ∷ all) more [] others one two = absurd one
  both (source ∷ all) more (winner ∷ winners) others one two = (one.0, both all more winners others one.1 two)

  module _ (config : Config) (winner : Winner) where
    -- a winner that no builder matches
    pub unmatched : is_some_item (matching config winner.path) ≡ false → AreSourcesOf db contents [] (sources config (winner ∷ []))
    unmatched e = subst (λ b. AreSourcesOf db contents [] (cond b (winner ∷ []) [])) (sym e) tt

    -- one that some builder matches
    pub matched : is_some_item (matching config winner.path) ≡ true → (source : Source) → IsSourceOf db contents source winner → AreSourcesOf db contents (source ∷ []) (sources config (winner ∷ []))
    matched e source of = subst (λ b. AreSourcesOf db contents (source ∷ []) (cond b (winner ∷ []) [])) (sym e) (of, tt)

-- the sources of the winners so far
pub record AreInterned (config : Config) (winners : List Winner) (db : Db) (contents : List (Option Entry)) (rest : List Winner) (all : List Source) : Type 0 where
  pub done : List Winner
  pub joined : done ++ rest ≡ winners
  pub each : AreSourcesOf db contents all (sources config done)

module _ (config : Config) (winners : List Winner) (db : Db) (contents : List (Option Entry)) where
  pub none_interned : AreInterned config winners db contents winners []
  none_interned = record { done = []; joined = refl; each = tt }

  pub all_interned : (all : List Source) → AreInterned config winners db contents [] all → AreSourcesOf db contents all (sources config winners)
  all_interned all so_far = subst (λ (done : List Winner). AreSourcesOf db contents all (sources config done)) (sym (append-nil so_far.done) ∙ so_far.joined) so_far.each

  module _ (winner : Winner) (rest : List Winner) (all : List Source) (so_far : AreInterned config winners db contents (winner ∷ rest) all) where
    pub next_is : Contains winners winner
    next_is = subst (λ wins. Contains wins winner) so_far.joined (Contains-append_right so_far.done (winner ∷ rest) winner (Contains-head winner rest))

    pub one_interned : (db' : Db) (contents' : List (Option Entry)) → StayHeld db contents db' contents' → (more : List Source) → AreSourcesOf db' contents' more (sources config (winner ∷ [])) → AreInterned config winners db' contents' rest (all ++ more)
    one_interned db' contents' stay more are = record {
      done = so_far.done ++ winner ∷ [];
      joined = append_assoc so_far.done (winner ∷ []) rest ∙ so_far.joined;
      each = subst (AreSourcesOf db' contents' (all ++ more)) (sym (filter-append (λ winner. is_some_item (matching config winner.path)) so_far.done (winner ∷ [])))
          (both db' contents' all more (sources config so_far.done) (sources config (winner ∷ [])) (stay_all db contents db' contents' stay all (sources config so_far.done) so_far.each) are);
    }
