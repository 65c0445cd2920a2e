use Rattle.std.proofs.Common.{sym, ◌∙◌}
use Rattle.register.specs.Views.{held}
use Rattle.tables.proofs.Known.{found_known}
use Rattle.tables.proofs.tables.Tables.move_account.Goals as goal

pub change-requires : goal.change-requires
change-requires c = found_known c.args.c.now.account (held c.args.self.now.accounts.shelf) c.in_ok-account.account (sym c.account.ensures ∙ c.in_ok-account.was)
