use Rattle.std.proofs.Common.{List, ℕ, ◌++◌, sym, subst, ap, ◌∙◌}
use Rattle.std.specs.List.{AllByRecursion, flat_map}
use Rattle.ap_tree.specs.Files.{names_below}
use Rattle.ap_scan.specs.declared.candidate.Candidate.{Candidate}
use Rattle.ap_scan.specs.Winners.{Files}
use Rattle.ap_scan.specs.Candidates.{candidates_in, odd_in, IsFolded}
use Rattle.ap_scan.proofs.Members.{listed-same}
use Rattle.ap_scan.proofs.Finding.{all-folded}
use Rattle.ap_text.proofs.Members.{AllByRecursion-join}
use Rattle.ap_scan.proofs.listing.list_folder.Goals as goal

pub returns-in-Ok-add_names-clause-candidates : goal.returns-in-Ok-add_names-clause-candidates
returns-in-Ok-add_names-clause-candidates g c =
    listed-same (candidates_in c.args.folder.now) (λ (files : Files). names_below c.args.folder.now.path files) (g.T.Tree.files c.args.tree.now) c.in-Ok.names.items
    c.args.listing.now.candidates.items c.add_names.new.listing.candidates.items c.in-Ok.ensures.names
    (c.in-Ok-add_names.ensures.candidates ∙ ap (λ (l : List (List ℕ)). c.args.listing.now.candidates.items ++ flat_map (candidates_in c.args.folder.now) l) c.deref.ensures.value)

pub returns-in-Ok-add_names-clause-odd : goal.returns-in-Ok-add_names-clause-odd
returns-in-Ok-add_names-clause-odd g c =
    listed-same (odd_in c.args.folder.now) (λ (files : Files). names_below c.args.folder.now.path files) (g.T.Tree.files c.args.tree.now) c.in-Ok.names.items
    c.args.listing.now.odd.items c.add_names.new.listing.odd.items c.in-Ok.ensures.names
    (c.in-Ok-add_names.ensures.odd ∙ ap (λ (l : List (List ℕ)). c.args.listing.now.odd.items ++ flat_map (odd_in c.args.folder.now) l) c.deref.ensures.value)

pub returns-in-Ok-add_names-clause-folded : goal.returns-in-Ok-add_names-clause-folded
returns-in-Ok-add_names-clause-folded g c = λ folded.
    subst (λ (l : List Candidate). AllByRecursion IsFolded l) (sym c.in-Ok-add_names.ensures.candidates)
    (AllByRecursion-join IsFolded c.args.listing.now.candidates.items (flat_map (candidates_in c.args.folder.now) c.deref.result.now) folded (all-folded c.args.folder.now c.deref.result.now))
