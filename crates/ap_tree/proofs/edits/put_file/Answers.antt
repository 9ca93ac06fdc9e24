use Rattle.std.proofs.Common.{◌≡◌, ◌++◌, [], ◌∷◌, rules}
use Rattle.ap_tree.proofs.Replaced.{put_at, put_behind}
use Rattle.ap_tree.proofs.edits.put_file.Goals as goal

pub returns-then-at-len-clause-puts : goal.returns-then-at-len-clause-puts
returns-then-at-len-clause-puts c = (put_at _ _ _ _ _ c.slot-at.result (search rules) (search rules) (search rules) (search rules)).puts

pub returns-then-at-len-clause-distinct : goal.returns-then-at-len-clause-distinct
returns-then-at-len-clause-distinct c = (put_at _ c.args.path.now c.args.bytes.now _ _ c.slot-at.result (search rules) (search rules) (search rules) (search rules)).distinct c.requires

pub returns-in_ok-push-clause-puts : goal.returns-in_ok-push-clause-puts
returns-in_ok-push-clause-puts c =
    let made : c.push.new.self.items ≡ c.args.files.now.items ++ (c.of-path_copy.result, c.of-bytes_copy.result) ∷ [] = c.in_ok-push.ensures.items in
    rw made (put_behind c.args.files.now.items c.args.path.now c.args.bytes.now c.of-path_copy.result c.of-bytes_copy.result c.slot-at.result (search rules) (search rules) (search rules) (search rules)).puts

pub returns-in_ok-push-clause-distinct : goal.returns-in_ok-push-clause-distinct
returns-in_ok-push-clause-distinct c =
    let made : c.push.new.self.items ≡ c.args.files.now.items ++ (c.of-path_copy.result, c.of-bytes_copy.result) ∷ [] = c.in_ok-push.ensures.items in
    rw made ((put_behind c.args.files.now.items c.args.path.now c.args.bytes.now c.of-path_copy.result c.of-bytes_copy.result c.slot-at.result (search rules) (search rules) (search rules) (search rules)).distinct c.requires)
