-- What the calls of a graph owe, told of its places.
use Rattle.std.proofs.Common.{◌≡◌, ◌≢◌, ◌<◌, ◌≤◌, ◌+◌, ◌==◌, ◌&&◌, ◌↔◌, ℕ, zero, suc, ℤ, Bool, true, false, cond, List, [], ◌∷◌, length, map, set, get_or, replicate, Contains, Option, Some, None, Bor, refl, sym, ◌∙◌, ap, subst, arith, inl, inr, ◌⊎◌, ⊎_elim, All, length-set}
use Rattle.std.specs.List.{AllByRecursion, find}
use Rattle.std.specs.Prelude.{is_some}
use Rattle.std.specs.List.Sorted.{IsStrictlySortedBy}
use Rattle.std.specs.Ordering.{is_lt}
use Rattle.std.proofs.lemmas.Bool.{true≢false, cases_eq, cond-true, cond-false}
use Rattle.std.proofs.lemmas.List.{get_or-set_same, get_or-set_other, get_or-map, length-map, length-replicate, set-get_or}
use Rattle.std.proofs.lemmas.List.Elements.{All-contains, Contains-get_or}
use Rattle.ap_text.specs.declared.job_id.JobId.{JobId}
use Rattle.ap_text.specs.Order.{Lists}
use Rattle.ap_graph.specs.declared.node.JobNode.{JobNode}
use Rattle.ap_graph.specs.declared.node.Progress.{Progress}
use Rattle.ap_graph.specs.declared.node.Progress.TheVariants.{Pending, Issued, Settled}
use Rattle.ap_graph.specs.declared.node.State.TheVariants.{Waiting, Ready}
use Rattle.ap_graph.specs.declared.job.Job.{Job}
use Rattle.ap_text.specs.JobOrder.{job_cmp, same_job}
use Rattle.ap_graph.specs.Ids.{name_at}
use Rattle.ap_graph.specs.Waits.{Kind, waits_for}
use Rattle.ap_graph.specs.Rows.{row_at, count_of, IsClosed}
use Rattle.ap_graph.specs.Contest.{Contest, goes_before, contest_cmp}
use Rattle.ap_graph.specs.Nodes.{node_cmp, is_node, IsResolved, IsOnCycle}
use Rattle.ap_graph.specs.Places.{HavePlaces}
use Rattle.ap_graph.specs.Jobs.{GraphJob, nodes_of, job_at, is_job, has_settled, state_by, state_at, state_of, with_progress, issue_cmp, IsNext, AreNew}
use Rattle.ap_graph.specs.Held.{nodes_held, marked, targets_in, waits_in, all_targets, all_waits, open_count, is_pending, can_start, EdgesWithin, IsPlan, IsCount, MatchesWaits}
use Rattle.ap_text.proofs.Members.{Contains-none, Contains-cons_cases, Contains-head, Contains-tail_of, Contains-map, Contains-map_cases, AllByRecursion-at, AllByRecursion-from}
use Rattle.ap_graph.proofs.RowFacts.{count_of-same, count_of-other}
use Rattle.ap_graph.proofs.Parting.{arrow_forth, has_row}
use Rattle.ap_graph.proofs.Releasing.{changed_at}
use Rattle.ap_graph.proofs.IdOrder.{same_job-Decides, rises_ids}
use Rattle.ap_graph.proofs.Holding.{at, has_place, state_at_place, with_progress_at, on_cycle_at, issue_order, place_of_job, at_is_there, nodes_of-marked}

some_job : (jobs : List Job) → 0 < length jobs → Job
some_job [] some = absurd (omega arith)
some_job (job ∷ jobs) some = job

-- an id that a graph has is among its ids
pub id_has_place : (ids : List JobId) (jobs : List Job) (progress : List Progress) → IsStrictlySortedBy job_cmp ids → length jobs ≡ length ids → length progress ≡ length jobs → (id : JobId) →
    is_job (marked (nodes_held ids ids jobs) progress) id ≡ true → Contains ids id
id_has_place [] [] progress rises places known id h = absurd (true≢false (sym h))
id_has_place (first ∷ ids) [] progress rises places known id h = absurd (true≢false (sym h))
id_has_place ids (job ∷ jobs) progress rises places known id h = has_place ids (job ∷ jobs) progress rises places known job id h

-- a ready job is in the graph
pub ready_is_job : (jobs : List GraphJob) (id : JobId) → state_of jobs id ≡ Ready → is_job jobs id ≡ true
ready_is_job jobs id h = by_case (job_at jobs id) h
  where
    by_case : (found : Option GraphJob) → state_at jobs found ≡ Ready → is_some found ≡ true
    by_case None h = cc
    by_case (Some job) h = refl

ready_by : (p : Progress) (free : Bool) → state_by p free ≡ Ready → (p ≡ Pending) × (free ≡ true)
ready_by Pending true h = (refl, refl)
ready_by Pending false h = cc
ready_by Issued free h = cc
ready_by Settled free h = cc

start_by : (p : Progress) (waiting : ℕ) → can_start p waiting ≡ true → state_by p (waiting == 0) ≡ Ready
start_by Pending waiting h = ap (λ (t : Bool). cond t Ready Waiting) h
start_by Issued waiting h = absurd (true≢false (sym h))
start_by Settled waiting h = absurd (true≢false (sym h))

start_from : (p : Progress) (waiting : ℕ) → state_by p (waiting == 0) ≡ Ready → can_start p waiting ≡ true
start_from Pending waiting h = (ready_by Pending (waiting == 0) h).1
start_from Issued waiting h = cc
start_from Settled waiting h = cc

pub settled_by : (p : Progress) → has_settled p ≡ true → p ≡ Settled
settled_by Pending h = absurd (true≢false (sym h))
settled_by Issued h = absurd (true≢false (sym h))
settled_by Settled h = refl

-- how many are open, once one more is settled
open_settle : (progress : List Progress) (i : ℕ) (xs : List ℕ) → i < length progress → has_settled (get_or progress i Pending) ≡ false → open_count progress xs ≡ open_count (set progress i Settled) xs + count_of i xs
open_settle progress i [] within still = refl
open_settle progress i (x ∷ xs) within still = by_case (cases_eq x i) (open_settle progress i xs within still)
  where
    by_case : (x ≡ i) ⊎ (x ≡ i → ⊥) → open_count progress xs ≡ open_count (set progress i Settled) xs + count_of i xs → open_count progress (x ∷ xs) ≡ open_count (set progress i Settled) (x ∷ xs) + count_of i (x ∷ xs)
    by_case (inl e) rest =
        let was : open_count progress (x ∷ xs) ≡ 1 + open_count progress xs = cond-false (has_settled (get_or progress x Pending)) (open_count progress xs) (1 + open_count progress xs) (ap (λ (w : ℕ). has_settled (get_or progress w Pending)) e ∙ still) in
        let now : open_count (set progress i Settled) (x ∷ xs) ≡ open_count (set progress i Settled) xs =
        cond-true (has_settled (get_or (set progress i Settled) x Pending)) (open_count (set progress i Settled) xs) (1 + open_count (set progress i Settled) xs)
        (ap has_settled (ap (λ (w : ℕ). get_or (set progress i Settled) w Pending) e ∙ get_or-set_same progress i Settled Pending within)) in
        let one : count_of i (x ∷ xs) ≡ 1 + count_of i xs = subst (λ (w : ℕ). count_of w (x ∷ xs) ≡ 1 + count_of w xs) e (count_of-same x xs) in
        omega (arith, was, now, one, rest)
    by_case (inr differs) rest =
        let none : count_of i (x ∷ xs) ≡ count_of i xs = count_of-other i x xs differs in
        let same : get_or (set progress i Settled) x Pending ≡ get_or progress x Pending = get_or-set_other progress i x Settled Pending differs in
        let now : open_count (set progress i Settled) (x ∷ xs) ≡ cond (has_settled (get_or progress x Pending)) (open_count (set progress i Settled) xs) (1 + open_count (set progress i Settled) xs) =
        ap (λ (p : Progress). cond (has_settled p) (open_count (set progress i Settled) xs) (1 + open_count (set progress i Settled) xs)) same in
        now_by (has_settled (get_or progress x Pending)) now
      where
        now_by : (t : Bool) → open_count (set progress i Settled) (x ∷ xs) ≡ cond t (open_count (set progress i Settled) xs) (1 + open_count (set progress i Settled) xs) →
            cond t (open_count progress xs) (1 + open_count progress xs) ≡ open_count (set progress i Settled) (x ∷ xs) + count_of i (x ∷ xs)
        now_by true h = omega (arith, h, rest, count_of-other i x xs differs)
        now_by false h = omega (arith, h, rest, count_of-other i x xs differs)

-- where the same are settled, as many are open
open_same : (progress progress' : List Progress) (xs : List ℕ) → ((x : ℕ) → has_settled (get_or progress' x Pending) ≡ has_settled (get_or progress x Pending)) → open_count progress' xs ≡ open_count progress xs
open_same progress progress' [] same = refl
open_same progress progress' (x ∷ xs) same =
    ap (λ (t : Bool). cond t (open_count progress' xs) (1 + open_count progress' xs)) (same x) ∙ ap (λ (n : ℕ). cond (has_settled (get_or progress x Pending)) n (1 + n)) (open_same progress progress' xs same)

-- where none is settled, all are open
open_all : (progress : List Progress) (xs : List ℕ) → ((x : ℕ) → has_settled (get_or progress x Pending) ≡ false) → open_count progress xs ≡ length xs
open_all progress [] none = refl
open_all progress (x ∷ xs) none = ap (λ (t : Bool). cond t (open_count progress xs) (1 + open_count progress xs)) (none x) ∙ (let h : open_count progress xs ≡ length xs = open_all progress xs none in let e : 1 + open_count progress xs ≡ length (x ∷ xs) = omega (arith, h) in e)

module _ (ids : List JobId) (jobs : List Job) (dependents : List (List ℕ)) (cyclic : List Bool) (progress : List Progress) (waiting : List ℕ) (ready : Contest)
    (plan : IsPlan ids jobs dependents cyclic) (count : IsCount jobs progress waiting ready) where
  abbrev pub seen : List GraphJob
  seen = marked (nodes_held ids ids jobs) progress

  known_at : (i : ℕ) → i < length ids → Job
  known_at i within = some_job jobs (omega (arith, plan.places))

  pub id_known : (id : JobId) → is_job seen id ≡ true → Contains ids id
  id_known id h = id_has_place ids jobs progress plan.rises plan.places count.progressed id h

  pub cycle_told : (i : ℕ) → i < length ids → (get_or cyclic i false ≡ true) ↔ IsOnCycle (nodes_of seen) (name_at ids i)
  cycle_told i within =
      let both = on_cycle_at ids jobs progress plan.rises plan.places count.progressed (known_at i within) plan.within i within in
      let told = plan.cycles.each i (omega (arith, length-map jobs (λ (job : Job). targets_in job.edges.items), plan.places)) in
      (λ h. both.0 (told.0 h), λ h. told.1 (both.1 h))

  pub length_progress : length progress ≡ length ids
  length_progress = count.progressed ∙ plan.places

  pub length_waiting : length waiting ≡ length ids
  length_waiting = count.counted ∙ plan.places

  pub length_cyclic : length cyclic ≡ length ids
  length_cyclic = plan.cycles.places ∙ length-map jobs (λ (job : Job). targets_in job.edges.items) ∙ plan.places

  pub state_told : (i : ℕ) → i < length ids → state_of seen (name_at ids i) ≡ state_by (get_or progress i Pending) (get_or waiting i 0 == 0)
  state_told i within = state_at_place ids jobs progress plan.rises plan.places count.progressed (known_at i within) i within plan.within
      ∙ ap (λ (n : ℕ). state_by (get_or progress i Pending) (n == 0)) (sym (count.waits i (omega (arith, plan.places))))

  pub state_is : (i : ℕ) (p : Progress) → i < length ids → get_or progress i Pending ≡ p → state_of seen (name_at ids i) ≡ state_by p (get_or waiting i 0 == 0)
  state_is i p within is = state_told i within ∙ ap (λ (q : Progress). state_by q (get_or waiting i 0 == 0)) is

  -- a job that takes part is ready, and the other way round
  taking_part : (i : ℕ) → i < length ids → get_or ready.entered i false ≡ true → state_of seen (name_at ids i) ≡ Ready
  taking_part i within h = state_told i within ∙ start_by (get_or progress i Pending) (get_or waiting i 0) (sym (count.matches.each i (omega (arith, count.counted, plan.places))) ∙ h)

  takes_part : (i : ℕ) → i < length ids → state_of seen (name_at ids i) ≡ Ready → get_or ready.entered i false ≡ true
  takes_part i within h = count.matches.each i (omega (arith, count.counted, plan.places)) ∙ start_from (get_or progress i Pending) (get_or waiting i 0) (sym (state_told i within) ∙ h)

  pub length-priorities : length ready.priorities ≡ length ids
  length-priorities = ap length count.priorities ∙ length-map jobs (λ (job : Job). job.priority) ∙ plan.places

  pub next_told : (i : ℕ) → i < length ids → get_or ready.entered i false ≡ true →
      ((j : ℕ) → j < length ready.priorities → get_or ready.entered j false ≡ true → goes_before ready.priorities j i ≡ false) → IsNext seen (name_at ids i)
  next_told i within enters first =
      let job = known_at i within in
      record {
        job = at ids jobs progress plan.rises plan.places count.progressed job i;
        has = at_is_there ids jobs progress plan.rises plan.places count.progressed job i within;
        named = refl;
        ready = taking_part i within enters;
        first = λ other has is_ready.
            let r = place_of_job ids jobs progress plan.rises plan.places count.progressed job other has in
            let ready_there : state_of seen (name_at ids r.0) ≡ Ready = subst (λ (w : GraphJob). state_of seen w.node.id ≡ Ready) r.2 is_ready in
            ap (λ (w : GraphJob). is_lt (issue_cmp w.node (at ids jobs progress plan.rises plan.places count.progressed job i).node)) r.2
            ∙ ap is_lt (issue_order ids jobs progress plan.rises plan.places count.progressed job r.0 i r.1 within)
            ∙ ap (λ (l : List ℤ). is_lt (contest_cmp l r.0 i)) (sym count.priorities)
            ∙ first r.0 (omega (arith, r.1, length-priorities)) (takes_part r.0 r.1 ready_there);
      }

  pub none_told : ((i : ℕ) → i < length ready.priorities → get_or ready.entered i false ≡ false) → (job : GraphJob) → Contains seen job → state_of seen job.node.id ≢ Ready
  none_told none job has is_ready = by_case jobs refl
    where
      by_case : (list : List Job) → jobs ≡ list → ⊥
      by_case [] e = absurd (Contains-none job (subst (λ (l : List Job). Contains (marked (nodes_held ids ids l) progress) job → Contains [] job) (sym e) (none_held ids) has))
        where
          none_held : (l : List JobId) → Contains (marked (nodes_held ids l []) progress) job → Contains [] job
          none_held [] h = h
          none_held (id ∷ l) h = h
      by_case (other ∷ list) e =
          let r = place_of_job ids jobs progress plan.rises plan.places count.progressed other job has in
          let ready_there : state_of seen (name_at ids r.0) ≡ Ready = subst (λ (w : GraphJob). state_of seen w.node.id ≡ Ready) r.2 is_ready in
          true≢false (sym (takes_part r.0 r.1 ready_there) ∙ none r.0 (omega (arith, r.1, length-priorities)))

  pub changes_told : (i : ℕ) (p : Progress) → i < length ids → marked (nodes_held ids ids jobs) (set progress i p) ≡ with_progress (name_at ids i) p seen
  changes_told i p within = sym (with_progress_at ids jobs progress plan.rises plan.places count.progressed (known_at i within) i p within)

  -- a job that is no longer pending takes no part
  matches_without : (i : ℕ) (p : Progress) → i < length ids → is_pending p ≡ false → MatchesWaits (set progress i p) waiting (set ready.entered i false)
  matches_without i p within past = record {
    places = length-set ready.entered i false ∙ count.matches.places;
    each = λ k in_k. changed_at ready.entered (set ready.entered i false) i false (omega (arith, count.matches.places, count.counted, plan.places)) refl k
        (can_start (get_or (set progress i p) k Pending) (get_or waiting k 0))
        (λ e. ap (λ (q : Progress). can_start q (get_or waiting k 0)) (ap (λ (w : ℕ). get_or (set progress i p) w Pending) e ∙ get_or-set_same progress i p Pending (omega (arith, count.progressed, plan.places)))
        ∙ ap (λ (t : Bool). t && get_or waiting k 0 == 0) past)
        (λ differs. count.matches.each k in_k ∙ ap (λ (q : Progress). can_start q (get_or waiting k 0)) (sym (get_or-set_other progress i k p Pending differs)));
  }

  pub issue_keeps : (i : ℕ) → i < length ids → state_of seen (name_at ids i) ≡ Ready → IsCount jobs (set progress i Issued) waiting (record ready { entered = set ready.entered i false })
  issue_keeps i within is_ready =
      let pending : get_or progress i Pending ≡ Pending = (ready_by (get_or progress i Pending) (get_or waiting i 0 == 0) (sym (state_told i within) ∙ is_ready)).0 in
      record {
        progressed = length-set progress i Issued ∙ count.progressed;
        counted = count.counted;
        waits = λ k in_k. count.waits k in_k ∙ sym (open_same progress (set progress i Issued) (row_at (all_waits jobs) k) (λ x. same pending x (cases_eq x i)));
        priorities = count.priorities;
        matches = matches_without i Issued within refl;
      }
    where
      same : get_or progress i Pending ≡ Pending → (x : ℕ) → (x ≡ i) ⊎ (x ≡ i → ⊥) → has_settled (get_or (set progress i Issued) x Pending) ≡ has_settled (get_or progress x Pending)
      same pending x (inl e) = ap has_settled (ap (λ (w : ℕ). get_or (set progress i Issued) w Pending) e ∙ get_or-set_same progress i Issued Pending (omega (arith, within, count.progressed, plan.places)))
          ∙ sym (ap has_settled (ap (λ (w : ℕ). get_or progress w Pending) e ∙ pending))
      same pending x (inr differs) = ap has_settled (get_or-set_other progress i x Issued Pending differs)

  -- settling a job that is settled changes nothing
  pub settled_stays : (i : ℕ) → i < length ids → get_or progress i Pending ≡ Settled → seen ≡ with_progress (name_at ids i) Settled seen
  settled_stays i within is =
      ap (marked (nodes_held ids ids jobs)) (sym (ap (λ (p : Progress). set progress i p) (sym is) ∙ set-get_or progress i Pending)) ∙ changes_told i Settled within

  pub dependents_within : (i : ℕ) → All (λ place. place < length waiting) (row_at dependents i)
  dependents_within i k d within =
      let there = arrow_forth (all_waits jobs) dependents plan.reversed (get_or (row_at dependents i) k d) i (Contains-get_or (row_at dependents i) k d within) in
      omega (arith, has_row (all_waits jobs) (get_or (row_at dependents i) k d) i there, length-map jobs (λ (job : Job). waits_in job.processed job.edges.items), count.counted)

  module _ (i : ℕ) (within : i < length ids) (still : has_settled (get_or progress i Pending) ≡ false) where
    in_progress : i < length progress
    in_progress = omega (arith, count.progressed, plan.places)

    pub dependents_enough : (k : ℕ) → k < length waiting → count_of k (row_at dependents i) ≤ get_or waiting k 0
    dependents_enough k in_k = omega (arith, plan.reversed.counts k i, count.waits k (omega (arith, count.counted)), open_settle progress i (row_at (all_waits jobs) k) in_progress still)

    pub settle_matches : MatchesWaits (set progress i Settled) waiting (set ready.entered i false)
    settle_matches = matches_without i Settled within refl

    pub settle_keeps : (waiting' : List ℕ) (ready' : Contest) → length waiting' ≡ length waiting → ((k : ℕ) → k < length waiting → get_or waiting' k 0 + count_of k (row_at dependents i) ≡ get_or waiting k 0) →
        ready'.priorities ≡ ready.priorities → MatchesWaits (set progress i Settled) waiting' ready'.entered → IsCount jobs (set progress i Settled) waiting' ready'
    settle_keeps waiting' ready' places released priorities matches = record {
      progressed = length-set progress i Settled ∙ count.progressed;
      counted = places ∙ count.counted;
      waits = λ k in_k. omega (arith, released k (omega (arith, in_k, count.counted)), plan.reversed.counts k i, count.waits k in_k, open_settle progress i (row_at (all_waits jobs) k) in_progress still);
      priorities = priorities ∙ count.priorities;
      matches = matches;
    }

-- each arrow leads to a place
pub targets_closed : (n : ℕ) (jobs : List Job) → length jobs ≡ n → EdgesWithin n jobs → IsClosed (all_targets jobs)
targets_closed n jobs places within i j arrow = by_list jobs refl
  where
    by_list : (list : List Job) → jobs ≡ list → j < length (all_targets jobs)
    by_list [] e = absurd (Contains-none j (subst (λ (l : List Job). Contains (row_at (all_targets l) i) j) e arrow))
    by_list (job ∷ list) e =
        let inside = has_row (all_targets jobs) i j arrow in
        let in_jobs : i < length jobs = omega (arith, inside, length-map jobs (λ (job : Job). targets_in job.edges.items)) in
        let row : row_at (all_targets jobs) i ≡ targets_in (get_or jobs i job).edges.items = get_or-map (λ (job : Job). targets_in job.edges.items) jobs i job [] in_jobs in
        let r = Contains-map_cases (λ (edge : Kind × ℕ). edge.1) (get_or jobs i job).edges.items j (subst (λ (l : List ℕ). Contains l j) row arrow) in
        let low : r.0.1 < n = All-contains (λ (edge : Kind × ℕ). edge.1 < n) (get_or jobs i job).edges.items r.0 (within i job in_jobs) r.1 in
        omega (arith, low, r.2, length-map jobs (λ (job : Job). targets_in job.edges.items))

waits_among : (processed : Bool) (edges : List (Kind × ℕ)) (j : ℕ) → Contains (waits_in processed edges) j → Contains (targets_in edges) j
waits_among processed [] j h = h
waits_among processed (edge ∷ edges) j h = by_case (waits_for edge.0 processed) (waits_among processed edges j) h
  where
    by_case : (t : Bool) → (Contains (waits_in processed edges) j → Contains (targets_in edges) j) → Contains (cond t (edge.1 ∷ waits_in processed edges) (waits_in processed edges)) j → Contains (edge.1 ∷ targets_in edges) j
    by_case true rest h = ⊎_elim (λ e. subst (λ (w : ℕ). Contains (edge.1 ∷ targets_in edges) w) e (Contains-head edge.1 (targets_in edges))) (λ later. Contains-tail_of edge.1 (targets_in edges) j (rest later)) (Contains-cons_cases edge.1 (waits_in processed edges) j h)
    by_case false rest h = Contains-tail_of edge.1 (targets_in edges) j (rest h)

pub waits_closed : (n : ℕ) (jobs : List Job) → length jobs ≡ n → EdgesWithin n jobs → IsClosed (all_waits jobs)
waits_closed n jobs places within i j arrow = by_list jobs refl
  where
    by_list : (list : List Job) → jobs ≡ list → j < length (all_waits jobs)
    by_list [] e = absurd (Contains-none j (subst (λ (l : List Job). Contains (row_at (all_waits l) i) j) e arrow))
    by_list (job ∷ list) e =
        let inside = has_row (all_waits jobs) i j arrow in
        let in_jobs : i < length jobs = omega (arith, inside, length-map jobs (λ (job : Job). waits_in job.processed job.edges.items)) in
        let row : row_at (all_waits jobs) i ≡ waits_in (get_or jobs i job).processed (get_or jobs i job).edges.items = get_or-map (λ (job : Job). waits_in job.processed job.edges.items) jobs i job [] in_jobs in
        let among = waits_among (get_or jobs i job).processed (get_or jobs i job).edges.items j (subst (λ (l : List ℕ). Contains l j) row arrow) in
        let r = Contains-map_cases (λ (edge : Kind × ℕ). edge.1) (get_or jobs i job).edges.items j among in
        let low : r.0.1 < n = All-contains (λ (edge : Kind × ℕ). edge.1 < n) (get_or jobs i job).edges.items r.0 (within i job in_jobs) r.1 in
        omega (arith, low, r.2, length-map jobs (λ (job : Job). waits_in job.processed job.edges.items))

-- at the start each job waits for all that it waits for at all
pub count_starts : (jobs : List Job) (progress : List Progress) (waiting : List ℕ) (ready : Contest) → progress ≡ replicate (length jobs) Pending → waiting ≡ map length (all_waits jobs) → ready.priorities ≡ map (λ job. job.priority) jobs →
    MatchesWaits progress waiting ready.entered → IsCount jobs progress waiting ready
count_starts jobs progress waiting ready pending counts priorities matches = record {
  progressed = ap length pending ∙ length-replicate {A = Progress} (length jobs) Pending;
  counted = ap length counts ∙ length-map (all_waits jobs) length ∙ length-map jobs (λ (job : Job). waits_in job.processed job.edges.items);
  waits = λ i within. ap (λ (l : List ℕ). get_or l i 0) counts ∙ get_or-map length (all_waits jobs) i [] 0 (omega (arith, length-map jobs (λ (job : Job). waits_in job.processed job.edges.items)))
      ∙ sym (open_all progress (row_at (all_waits jobs) i) (λ x. ap (λ (l : List Progress). has_settled (get_or l x Pending)) pending ∙ none (length jobs) x));
  priorities = priorities;
  matches = matches;
}
  where
    none : (n x : ℕ) → has_settled (get_or (replicate n Pending) x Pending) ≡ false
    none zero x = refl
    none (suc n) zero = refl
    none (suc n) (suc x) = none n x

all_pending : (nodes : List JobNode) (n : ℕ) → AllByRecursion (λ (job : GraphJob). job.progress ≡ Pending) (marked nodes (replicate n Pending))
all_pending [] n = tt
all_pending (node ∷ nodes) zero = tt
all_pending (node ∷ nodes) (suc n) = (refl, all_pending nodes n)

-- a new graph has all nodes by id
pub graph_is_new : (nodes sorted : List JobNode) (ids : List JobId) (jobs : List Job) → length jobs ≡ length ids → nodes_held ids ids jobs ≡ sorted → Lists node_cmp (Contains nodes) sorted →
    AreNew nodes (marked (nodes_held ids ids jobs) (replicate (length jobs) Pending))
graph_is_new nodes sorted ids jobs places held lists = record {
  lists = subst (λ (l : List JobNode). Lists node_cmp (Contains nodes) l)
      (sym (nodes_of-marked ids ids jobs (replicate (length jobs) Pending) (sym places) (length-replicate {A = Progress} (length jobs) Pending) ∙ held)) lists;
  pending = all_pending (nodes_held ids ids jobs) (length jobs);
}

map-map : {X Y Z : Type 0} (f : X → Y) (g : Y → Z) (xs : List X) → map g (map f xs) ≡ map (λ x. g (f x)) xs
map-map f g [] = refl
map-map f g (x ∷ xs) = ap (λ l. g (f x) ∷ l) (map-map f g xs)

pub ids_rise : (nodes : List JobNode) (sorted : List (Bor JobNode)) (ids : List JobId) → ids ≡ map (λ node. node.now.id) sorted → Lists node_cmp (Contains nodes) (map (λ node. node.now) sorted) → IsStrictlySortedBy job_cmp ids
ids_rise nodes sorted ids are lists = subst (λ (l : List JobId). IsStrictlySortedBy job_cmp l) (map-map (λ (node : Bor JobNode). node.now) (λ (node : JobNode). node.id) sorted ∙ sym are) (rises_ids (map (λ node. node.now) sorted) lists.rises)

found_node : (nodes : List JobNode) (id : JobId) → is_node nodes id ≡ true → (node : JobNode) × Contains nodes node × (node.id ≡ id)
found_node [] id h = absurd (true≢false (sym h))
found_node (node ∷ nodes) id h = by_case (same_job node.id id) refl (found_node nodes id) h
  where
    by_case : (t : Bool) → same_job node.id id ≡ t → (is_node nodes id ≡ true → (other : JobNode) × Contains nodes other × (other.id ≡ id)) → is_some (cond t (Some node) (find (λ other. same_job other.id id) nodes)) ≡ true →
        (other : JobNode) × Contains (node ∷ nodes) other × (other.id ≡ id)
    by_case true e later h = (node, Contains-head node nodes, (same_job-Decides node.id id).0 e)
    by_case false e later h = let r = later h in (r.0, Contains-tail_of node nodes r.0 r.1, r.2)

pub edges_resolved : (nodes : List JobNode) (sorted : List (Bor JobNode)) (ids : List JobId) → IsResolved nodes → ids ≡ map (λ node. node.now.id) sorted → Lists node_cmp (Contains nodes) (map (λ node. node.now) sorted) →
    All (λ node. HavePlaces ids node.now.edges) sorted
edges_resolved nodes sorted ids resolved are lists k d within =
    let node : Bor JobNode = get_or sorted k d in
    let there : Contains nodes (get_or sorted k d).now = (lists.holds (get_or sorted k d).now).0 (Contains-map (λ (node : Bor JobNode). node.now) sorted (get_or sorted k d) (Contains-get_or sorted k d within)) in
    let edges = AllByRecursion-at (λ (node : JobNode). AllByRecursion (λ edge. is_node nodes edge.1 ≡ true) node.edges) nodes (get_or sorted k d).now resolved there in
    AllByRecursion-from (λ (edge : Kind × JobId). Contains ids edge.1) (get_or sorted k d).now.edges
    (λ edge has. has_id edge.1 (AllByRecursion-at (λ (edge : Kind × JobId). is_node nodes edge.1 ≡ true) (get_or sorted k d).now.edges edge edges has))
  where
    has_id : (id : JobId) → is_node nodes id ≡ true → Contains ids id
    has_id id h =
        let r = found_node nodes id h in
        let s = Contains-map_cases (λ (node : Bor JobNode). node.now) sorted r.0 ((lists.holds r.0).1 r.1) in
        subst (λ (l : List JobId). Contains l id) (sym are) (subst (λ (w : JobId). Contains (map (λ node. node.now.id) sorted) w) (ap (λ (node : JobNode). node.id) s.2 ∙ r.2) (Contains-map (λ (node : Bor JobNode). node.now.id) sorted s.0 s.1))
