use Rattle.std.proofs.Common.{◌≡◌, drop}
use Rattle.ap_rows.specs.Products.{product_rows}
use Rattle.ap_rows.specs.Listing.{items_behind}
use Rattle.ap_rows.proofs.node.read_rows.Given as goal

-- the products so far, and those of the things that are left, are all of them
abbrev pub invariant-loop-kid : goal.invariant-loop-kid
invariant-loop-kid l = product_rows l.kids l.fn.reader ≡ items_behind l.rows.items (product_rows (drop l.kid-index l.kids) l.reader)
