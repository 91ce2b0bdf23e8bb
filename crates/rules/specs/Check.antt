-- Check: 7 for the header; otherwise yes exactly if header and records are faithful.
-- Assumes nothing.
use Rattle.std.specs.Prelude.{not, [], ◌∷◌}
use Rattle.rules.specs.Lists.{bit}
use Rattle.rules.specs.Replies.{unfit, Reply, numbered, accepted, refused_if, unless}
use Rattle.rules.specs.Page.{Page, fits, is_faithful}

unfoldable pub check_reply : Page → Reply
check_reply pg = unless (refused_if (not (fits pg)) unfit) numbered (accepted (bit (is_faithful pg) ∷ []))
