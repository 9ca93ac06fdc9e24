-- What a refusal says.
use Rattle.std.proofs.Common.{◌≡◌, ◌≢◌, ◌⊎◌, inl, inr, ℕ, zero, suc, List, [], ◌++◌, take, refl, sym, ◌∙◌, ap, subst}
use Rattle.std.specs.Prelude.{◌<◌, ◌+◌, String, Option, Some, None, Err, IfSome}
use Rattle.std.proofs.lemmas.List.{append-nil}
use Rattle.ap_db.specs.declared.fault.DbFault.{DbFault}
use Rattle.ap_db.specs.declared.fault.DbFault.TheVariants.{OutOfMemory, DiskFault, BadStore as BadDb, StoreFull, Spent}
use Rattle.ap_db.specs.Opened.{IsBadStore}
use Rattle.ap_cli.specs.declared.stop.Stop.{Stop}
use Rattle.ap_cli.specs.declared.stop.Stop.TheVariants.{Usage, Configuration, Tree, Cache, Disk, Output, Memory, BadStore, Limit, Full, Unbuilt}
use Rattle.ap_cli.specs.Output.{GainsFront}
use Rattle.ap_cli.specs.Refusals.{refusal_line, status_of, of_db}
use Rattle.ap_cli.specs.Causes.{IsCause, IsCauseFor}
use Rattle.ap_cli.specs.Project.{config_at, IsOver}
use Rattle.ap_cli.specs.declared.unconfigured.Unconfigured.{Unconfigured}
use Rattle.ap_scan.specs.Winners.{Files}
use Rattle.ap_text.specs.declared.seen.Which.{Which}
use Rattle.ap_config.specs.declared.offer.Offer.{Offer}
use Rattle.std.specs.declared.alloc.Global.{Global}

pub is_output : (stop : Stop) → status_of stop ≡ 7 → stop ≡ Output
is_output Usage e = absurd (cc e)
is_output (Configuration why) e = absurd (cc e)
is_output Tree e = absurd (cc e)
is_output Cache e = absurd (cc e)
is_output Disk e = absurd (cc e)
is_output Output e = refl
is_output Memory e = absurd (cc e)
is_output (BadStore n o) e = absurd (cc e)
is_output (Limit which count) e = absurd (cc e)
is_output (Full l w) e = absurd (cc e)
is_output Unbuilt e = absurd (cc e)

-- what is said of a reason: it, or want of memory for its line
abbrev pub IsSaid : Stop → Stop → Type 0
IsSaid said stop = (said ≡ stop) ⊎ ((said ≡ Memory) × (stop ≢ Output))

pub said_as : (said stop : Stop) → IsSaid said stop → said ≡ Output → stop ≡ Output
said_as said stop (inl same) output = sym same ∙ output
said_as said stop (inr (memory, no_output)) output = absurd (cc (sym output ∙ memory))

nothing_more : (before now : Option (List ℕ)) → GainsFront before now [] → before ≡ now
nothing_more None None gains = refl
nothing_more None (Some n) gains = absurd gains
nothing_more (Some b) None gains = absurd gains
nothing_more (Some b) (Some n) (count, is) = ap Some (sym (is ∙ ap (λ l. b ++ l) (take_none count) ∙ append-nil b))
  where
    take_none : (count : ℕ) → take {A = ℕ} count [] ≡ []
    take_none zero = refl
    take_none (suc count) = refl

pub says_nothing : (before now : Option (List ℕ)) (stop : Stop) → stop ≡ Output → GainsFront before now (refusal_line stop) → before ≡ now
says_nothing before now stop output gains = nothing_more before now (subst (λ (s : Stop). GainsFront before now (refusal_line s)) output gains)

pub caused_as : (words : List (String Global)) (offers : List Offer) (tree : Option Files) (store : Option (List ℕ)) (limit : ℕ) (said stop : Stop) → IsSaid said stop
    → IsCauseFor words offers tree store limit stop → IsCauseFor words offers tree store limit said
caused_as words offers tree store limit said stop (inl same) caused = subst (IsCauseFor words offers tree store limit) (sym same) caused
caused_as words offers tree store limit said stop (inr (memory, no_output)) caused = subst (IsCauseFor words offers tree store limit) (sym memory) (record { each = λ path is. tt })

-- where the sink's fault isn't the answer, it isn't why the run ends
pub other_than : (result : ℕ) (said stop : Stop) → IsSaid said stop → result ≡ status_of said → result ≢ 7 → stop ≢ Output
other_than result said stop (inl same) is other = λ output. other (is ∙ ap status_of (same ∙ output))
other_than result said stop (inr (memory, no_output)) is other = no_output

-- ---- causes

module _ (offers : List Offer) (path : List ℕ) (tree : Option Files) (store : Option (List ℕ)) (limit : ℕ) where
  pub cause_of_reading : (stop : Stop) → ((why : Unconfigured) → stop ≡ Configuration why → IfSome tree (λ files. config_at offers path files ≡ Err why))
      → (stop ≡ Memory) ⊎ (stop ≡ Tree) ⊎ ((why : Unconfigured) × (stop ≡ Configuration why)) → IsCause offers path tree store limit stop
  cause_of_reading stop refused (inl memory) = subst (IsCause offers path tree store limit) (sym memory) tt
  cause_of_reading stop refused (inr (inl failed)) = subst (IsCause offers path tree store limit) (sym failed) tt
  cause_of_reading stop refused (inr (inr (why, is))) = subst (IsCause offers path tree store limit) (sym is) (refused why is)

  pub cause_of_opening : (fault : DbFault) → ((place offset : ℕ) → fault ≡ BadDb place offset → IfSome store (IsBadStore place offset))
      → (fault ≡ OutOfMemory) ⊎ (fault ≡ DiskFault) ⊎ ((place : ℕ) × (offset : ℕ) × (fault ≡ BadDb place offset)) → IsCause offers path tree store limit (of_db fault)
  cause_of_opening OutOfMemory bad only = tt
  cause_of_opening DiskFault bad only = tt
  cause_of_opening Spent bad only = tt
  cause_of_opening (BadDb place offset) bad only = bad place offset refl
  cause_of_opening (StoreFull l w) bad (inl e) = cc e
  cause_of_opening (StoreFull l w) bad (inr (inl e)) = cc e
  cause_of_opening (StoreFull l w) bad (inr (inr (place, offset, e))) = cc e

  pub cause_of_settling : (stop : Stop) → ((l w : ℕ) → stop ≡ Full l w → limit < l + w) → ((which : Which) (count : ℕ) → stop ≡ Limit which count → IfSome tree (λ files. IsOver offers path files which count))
      → (stop ≡ Memory) ⊎ (stop ≡ Tree) ⊎ (stop ≡ Unbuilt) ⊎ (stop ≡ Disk) ⊎ ((l : ℕ) × (w : ℕ) × (stop ≡ Full l w)) ⊎ ((which : Which) × (count : ℕ) × (stop ≡ Limit which count))
      → IsCause offers path tree store limit stop
  cause_of_settling stop full over (inl is) = subst (IsCause offers path tree store limit) (sym is) tt
  cause_of_settling stop full over (inr (inl is)) = subst (IsCause offers path tree store limit) (sym is) tt
  cause_of_settling stop full over (inr (inr (inl is))) = subst (IsCause offers path tree store limit) (sym is) tt
  cause_of_settling stop full over (inr (inr (inr (inl is)))) = subst (IsCause offers path tree store limit) (sym is) tt
  cause_of_settling stop full over (inr (inr (inr (inr (inl (l, w, is)))))) = subst (IsCause offers path tree store limit) (sym is) (full l w is)
  cause_of_settling stop full over (inr (inr (inr (inr (inr (which, count, is)))))) = subst (IsCause offers path tree store limit) (sym is) (over which count is)

-- ---- the store was kept

-- a scan's refusal leaves it as the opening did
pub kept_as : (Same : Type 0) (stop : Stop) → (stop ≡ Memory) ⊎ (stop ≡ Tree) ⊎ (stop ≡ Unbuilt) ⊎ (stop ≡ Disk) ⊎ ((l : ℕ) × (w : ℕ) × (stop ≡ Full l w)) ⊎ ((which : Which) × (count : ℕ) × (stop ≡ Limit which count))
    → ((stop ≡ Tree) ⊎ ((which : Which) × (count : ℕ) × (stop ≡ Limit which count)) → Same)
    → (stop ≡ Tree) ⊎ ((n : ℕ) × (o : ℕ) × (stop ≡ BadStore n o)) ⊎ ((which : Which) × (count : ℕ) × (stop ≡ Limit which count)) → Same
kept_as Same stop only given (inl tree) = given (inl tree)
kept_as Same stop only given (inr (inr limit)) = given (inr limit)
kept_as Same stop only given (inr (inl (n, o, bad))) = absurd (never only)
  where
    never : (stop ≡ Memory) ⊎ (stop ≡ Tree) ⊎ (stop ≡ Unbuilt) ⊎ (stop ≡ Disk) ⊎ ((l : ℕ) × (w : ℕ) × (stop ≡ Full l w)) ⊎ ((which : Which) × (count : ℕ) × (stop ≡ Limit which count)) → ⊥
    never (inl is) = cc (is, bad)
    never (inr (inl is)) = cc (is, bad)
    never (inr (inr (inl is))) = cc (is, bad)
    never (inr (inr (inr (inl is)))) = cc (is, bad)
    never (inr (inr (inr (inr (inl (l, w, is)))))) = cc (is, bad)
    never (inr (inr (inr (inr (inr (which, count, is)))))) = cc (is, bad)

-- ---- the store was good

-- unless the run ended before that, or for the store
abbrev pub IsGoodUnless : Type 0 → Type 0 → Stop → Type 0
IsGoodUnless Same Good stop = (stop ≡ Usage) ⊎ (stop ≡ Memory) ⊎ (stop ≡ Disk) ⊎ ((n : ℕ) × (o : ℕ) × (stop ≡ BadStore n o)) ⊎ ((why : Unconfigured) × (stop ≡ Configuration why)) ⊎ ((stop ≡ Tree) × Same) ⊎ Good

abbrev pub IsGoodBut : Type 0 → Type 0 → ℕ → Type 0
IsGoodBut Same Good result = (result ≡ 2) ⊎ (result ≡ 3) ⊎ (result ≡ 6) ⊎ (result ≡ 8) ⊎ (result ≡ 9) ⊎ ((result ≡ 4) × Same) ⊎ Good

status_good : (Same Good : Type 0) (result : ℕ) (stop : Stop) → result ≡ status_of stop → IsGoodUnless Same Good stop → IsGoodBut Same Good result
status_good Same Good result stop is (inl usage) = inl (is ∙ ap status_of usage)
status_good Same Good result stop is (inr (inl memory)) = inr (inr (inr (inl (is ∙ ap status_of memory))))
status_good Same Good result stop is (inr (inr (inl disk))) = inr (inr (inl (is ∙ ap status_of disk)))
status_good Same Good result stop is (inr (inr (inr (inl (n, o, bad))))) = inr (inr (inr (inr (inl (is ∙ ap status_of bad)))))
status_good Same Good result stop is (inr (inr (inr (inr (inl (why, refused)))))) = inr (inl (is ∙ ap status_of refused))
status_good Same Good result stop is (inr (inr (inr (inr (inr (inl (failed, same))))))) = inr (inr (inr (inr (inr (inl (is ∙ ap status_of failed, same))))))
status_good Same Good result stop is (inr (inr (inr (inr (inr (inr good)))))) = inr (inr (inr (inr (inr (inr good)))))

pub good_as : (Same Good : Type 0) (result : ℕ) (said stop : Stop) → IsSaid said stop → result ≡ status_of said → IsGoodUnless Same Good stop → IsGoodBut Same Good result
good_as Same Good result said stop (inl same) is good = status_good Same Good result stop (is ∙ ap status_of same) good
good_as Same Good result said stop (inr (memory, other)) is good = inr (inr (inr (inl (is ∙ ap status_of memory))))

-- ---- which reason has a status

is_tree : (stop : Stop) → status_of stop ≡ 4 → stop ≡ Tree
is_tree Usage e = absurd (cc e)
is_tree (Configuration why) e = absurd (cc e)
is_tree Tree e = refl
is_tree Cache e = absurd (cc e)
is_tree Disk e = absurd (cc e)
is_tree Output e = absurd (cc e)
is_tree Memory e = absurd (cc e)
is_tree (BadStore n o) e = absurd (cc e)
is_tree (Limit which count) e = absurd (cc e)
is_tree (Full l w) e = absurd (cc e)
is_tree Unbuilt e = absurd (cc e)

is_configuration : (stop : Stop) → status_of stop ≡ 3 → (why : Unconfigured) × (stop ≡ Configuration why)
is_configuration Usage e = absurd (cc e)
is_configuration (Configuration why) e = (why, refl)
is_configuration Tree e = absurd (cc e)
is_configuration Cache e = absurd (cc e)
is_configuration Disk e = absurd (cc e)
is_configuration Output e = absurd (cc e)
is_configuration Memory e = absurd (cc e)
is_configuration (BadStore n o) e = absurd (cc e)
is_configuration (Limit which count) e = absurd (cc e)
is_configuration (Full l w) e = absurd (cc e)
is_configuration Unbuilt e = absurd (cc e)

is_bad : (stop : Stop) → status_of stop ≡ 9 → (n : ℕ) × (o : ℕ) × (stop ≡ BadStore n o)
is_bad Usage e = absurd (cc e)
is_bad (Configuration why) e = absurd (cc e)
is_bad Tree e = absurd (cc e)
is_bad Cache e = absurd (cc e)
is_bad Disk e = absurd (cc e)
is_bad Output e = absurd (cc e)
is_bad Memory e = absurd (cc e)
is_bad (BadStore n o) e = (n, o, refl)
is_bad (Limit which count) e = absurd (cc e)
is_bad (Full l w) e = absurd (cc e)
is_bad Unbuilt e = absurd (cc e)

is_limit : (stop : Stop) → status_of stop ≡ 10 → (which : Which) × (count : ℕ) × (stop ≡ Limit which count)
is_limit Usage e = absurd (cc e)
is_limit (Configuration why) e = absurd (cc e)
is_limit Tree e = absurd (cc e)
is_limit Cache e = absurd (cc e)
is_limit Disk e = absurd (cc e)
is_limit Output e = absurd (cc e)
is_limit Memory e = absurd (cc e)
is_limit (BadStore n o) e = absurd (cc e)
is_limit (Limit which count) e = (which, count, refl)
is_limit (Full l w) e = absurd (cc e)
is_limit Unbuilt e = absurd (cc e)

is_full : (stop : Stop) → status_of stop ≡ 11 → (l : ℕ) × (w : ℕ) × (stop ≡ Full l w)
is_full Usage e = absurd (cc e)
is_full (Configuration why) e = absurd (cc e)
is_full Tree e = absurd (cc e)
is_full Cache e = absurd (cc e)
is_full Disk e = absurd (cc e)
is_full Output e = absurd (cc e)
is_full Memory e = absurd (cc e)
is_full (BadStore n o) e = absurd (cc e)
is_full (Limit which count) e = absurd (cc e)
is_full (Full l w) e = (l, w, refl)
is_full Unbuilt e = absurd (cc e)

pub some_status : (result : ℕ) (said : Stop) → result ≡ status_of said
    → (result ≡ 0) ⊎ (result ≡ 1) ⊎ (result ≡ 2) ⊎ (result ≡ 3) ⊎ (result ≡ 4) ⊎ (result ≡ 5) ⊎ (result ≡ 6) ⊎ (result ≡ 7) ⊎ (result ≡ 8) ⊎ (result ≡ 9) ⊎ (result ≡ 10) ⊎ (result ≡ 11) ⊎ (result ≡ 13)
some_status result Usage is = inr (inr (inl is))
some_status result (Configuration why) is = inr (inr (inr (inl is)))
some_status result Tree is = inr (inr (inr (inr (inl is))))
some_status result Cache is = inr (inr (inr (inr (inr (inl is)))))
some_status result Disk is = inr (inr (inr (inr (inr (inr (inl is))))))
some_status result Output is = inr (inr (inr (inr (inr (inr (inr (inl is)))))))
some_status result Memory is = inr (inr (inr (inr (inr (inr (inr (inr (inl is))))))))
some_status result (BadStore n o) is = inr (inr (inr (inr (inr (inr (inr (inr (inr (inl is)))))))))
some_status result (Limit which count) is = inr (inr (inr (inr (inr (inr (inr (inr (inr (inr (inl is))))))))))
some_status result (Full l w) is = inr (inr (inr (inr (inr (inr (inr (inr (inr (inr (inr (inl is)))))))))))
some_status result Unbuilt is = inr (inr (inr (inr (inr (inr (inr (inr (inr (inr (inr (inr is)))))))))))

module _ (result : ℕ) (said stop : Stop) (is_said : IsSaid said stop) (status : result ≡ status_of said) where
  -- the reason's status, where it isn't want of memory
  reason_has : (n : ℕ) → n ≢ 8 → result ≡ n → status_of stop ≡ n
  reason_has n other is = has is_said
    where
      has : IsSaid said stop → status_of stop ≡ n
      has (inl same) = ap status_of (sym same) ∙ sym status ∙ is
      has (inr (memory, no_output)) = absurd (other (sym is ∙ status ∙ ap status_of memory))

  -- it isn't another one
  pub not_for : (other : Stop) → result ≢ 8 → result ≢ status_of other → stop ≢ other
  not_for other no_memory not_its = λ why. apart is_said why
    where
      apart : IsSaid said stop → stop ≡ other → ⊥
      apart (inl same) why = not_its (status ∙ ap status_of (same ∙ why))
      apart (inr (memory, no_output)) why = no_memory (status ∙ ap status_of memory)

  pub tree_at : result ≡ 4 → stop ≡ Tree
  tree_at four = is_tree stop (reason_has 4 (λ e. cc e) four)

  pub configuration_at : result ≡ 3 → (why : Unconfigured) × (stop ≡ Configuration why)
  configuration_at three = is_configuration stop (reason_has 3 (λ e. cc e) three)

  pub bad_at : result ≡ 9 → (n : ℕ) × (o : ℕ) × (stop ≡ BadStore n o)
  bad_at nine = is_bad stop (reason_has 9 (λ e. cc e) nine)

  pub limit_at : result ≡ 10 → (which : Which) × (count : ℕ) × (stop ≡ Limit which count)
  limit_at ten = is_limit stop (reason_has 10 (λ e. cc e) ten)

  pub full_at : result ≡ 11 → (l : ℕ) × (w : ℕ) × (stop ≡ Full l w)
  full_at eleven = is_full stop (reason_has 11 (λ e. cc e) eleven)

  -- a configuration, unless the run ended before
  pub configured_as : (X : Type 0) → (stop ≡ Usage) ⊎ (stop ≡ Tree) ⊎ (stop ≡ Memory) ⊎ ((why : Unconfigured) × (stop ≡ Configuration why)) ⊎ X
      → (result ≡ 2) ⊎ (result ≡ 3) ⊎ (result ≡ 4) ⊎ (result ≡ 8) ⊎ X
  configured_as X given = by_case is_said given
    where
      by_case : IsSaid said stop → (stop ≡ Usage) ⊎ (stop ≡ Tree) ⊎ (stop ≡ Memory) ⊎ ((why : Unconfigured) × (stop ≡ Configuration why)) ⊎ X
          → (result ≡ 2) ⊎ (result ≡ 3) ⊎ (result ≡ 4) ⊎ (result ≡ 8) ⊎ X
      by_case (inr (memory, no_output)) given = inr (inr (inr (inl (status ∙ ap status_of memory))))
      by_case (inl same) (inl usage) = inl (status ∙ ap status_of (same ∙ usage))
      by_case (inl same) (inr (inl tree)) = inr (inr (inl (status ∙ ap status_of (same ∙ tree))))
      by_case (inl same) (inr (inr (inl memory))) = inr (inr (inr (inl (status ∙ ap status_of (same ∙ memory)))))
      by_case (inl same) (inr (inr (inr (inl (why, refused))))) = inr (inl (status ∙ ap status_of (same ∙ refused)))
      by_case (inl same) (inr (inr (inr (inr x)))) = inr (inr (inr (inr x)))
