mod Shares
mod Tokens
