-- In reading order: a rewrite, what a boot rewrites, what the application rewrites, what boots, and
-- what goes on booting.
pub mod Rewrite
pub mod Boot
pub mod Verdict
pub mod Boots
pub mod Pair
